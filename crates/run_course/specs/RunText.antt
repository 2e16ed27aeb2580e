-- The text of a run: its trace if it is asked for, then its report. The form is this project's own.
use Rattle.std.specs.Prelude.{ℕ, List, [], ◌++◌, length}
use Rattle.tab_core.specs.declared.host.Host.{Host}
use Rattle.tab_core.specs.declared.stint.Stint.{Stint}
use Rattle.tab_words.specs.Texts.{texts_below}
use Rattle.tab_words.specs.declared.command.RunMode.{RunMode}
use Rattle.tab_words.specs.declared.command.RunMode.TheVariants.{Trace}
use Rattle.vcpu_names.specs.Names.{names_of}
use Rattle.table_form.specs.Running.Courses.{CourseView}
use Rattle.plan_book.specs.declared.outcome.Outcome.{Outcome}
use Rattle.trace_report.specs.ReportText.{report_text}
use Rattle.trace_report.specs.ReportViews.{ReportView}
use Rattle.trace_report.specs.TraceText.{trace_text}

-- the stints of each core, by core number, as lines
abbrev pub traces : List (List ℕ) → CourseView → (ℕ → List Stint) → List ℕ
traces names course stints = texts_below (λ c. trace_text names course c (stints c)) course.cores

-- the trace before the report; the lines of bursts, which come before a report too, are the top call's
abbrev pub trace_part : RunMode → List (List ℕ) → CourseView → (ℕ → List Stint) → List ℕ
trace_part Trace names course stints = traces names course stints
trace_part mode names course stints = []

-- a run of so many rounds of the course of a host, whose script's changes are these; `stints` has the
-- stints of each core
abbrev pub run_text : RunMode → Host → List (ℕ × Outcome) → CourseView → ℕ → (ℕ → List Stint) → ReportView
    → List ℕ
run_text mode host changes course rounds stints report =
    trace_part mode (names_of host.vcpus) course stints
    ++ report_text host changes (length course.ticks) rounds report
