-- `run`, of a host and a script: a whole run of the host's cores by threads; or the first cause that there
-- is none.
use Rattle.std.specs.Prelude.{◌≡◌, ℕ, List, [], ◌++◌}
use Rattle.tab_core.specs.declared.host.Host.{Host}
use Rattle.tab_words.specs.declared.command.RunMode.{RunMode}
use Rattle.tab_words.specs.declared.command.RunMode.TheVariants.{Burst}
use Rattle.vcpu_names.specs.Names.{names_of}
use Rattle.script_doc.specs.declared.event.Event.{Event}
use Rattle.plan_book.specs.Books.{BookView, IsBookOf}
use Rattle.plan_book.specs.Courses.{IsCourseOf}
use Rattle.plan_promises.specs.Runs.{RunKeepsReservations}
use Rattle.table_form.specs.Running.Courses.{CourseView, IsCourse, outline_of}
use Rattle.table_form.specs.Running.Complete.{IsComplete}
use Rattle.table_form.specs.Promises.Run.{KeepsPromises}
use Rattle.dispatch_core.specs.Parts.{IsOfOutline}
use Rattle.round_words.specs.declared.view.View.{View}
use Rattle.run_state.specs.Readings.{state_of}
use Rattle.run_state.specs.RunViews.{HoldsAllParts}
use Rattle.trace_report.specs.ReportViews.{ReportView}
use Rattle.burst_bound.specs.Reports.{AreBurstAnswers}
use Rattle.burst_bound.specs.BurstText.{bursts_text}
use Rattle.burst_bound.specs.declared.answer.BurstAnswer.{BurstAnswer}
use Rattle.run_course.specs.Changes.{changes_of}
use Rattle.run_course.specs.Runs.{IsReportOfState, IsTooLong, stints_at}
use Rattle.run_course.specs.RunText.{run_text}
use Rattle.tableau_sim.specs.declared.status.Status.{Status}
use Rattle.tableau_sim.specs.declared.status.Status.TheVariants as status
use Rattle.tableau_sim.specs.Outcomes.{CallOutcome}
use Rattle.tableau_sim.specs.Outcomes.CallOutcome.{Refuses, Writes}
use Rattle.tableau_sim.specs.Plan.{HasNoPlan}

-- The view holds all parts of a board that was started for the course that the events make of the host.
-- Read as a state it is a whole run of so many rounds that keeps all promises: all cores use one plan in a
-- round, no vCPU runs on two cores at once, each is offered its cost in each of its periods, no core idles
-- while somebody may run there, and each vCPU gets its share and waits within its latency
pub record RunsWhole (rounds : ℕ) (host : Host) (events : List Event) (course : CourseView)
    (view : View) : Type 0 where
  pub course_is : IsCourseOf host events course
  pub course_kept : IsCourse course
  pub started : IsOfOutline (outline_of course) view
  pub holds : HoldsAllParts view
  pub promises : KeepsPromises course rounds (state_of course view)
  pub reservations : RunKeepsReservations host events course (state_of course view)
  pub complete : IsComplete course rounds (state_of course view)

-- the text of a run whose view this is: its trace if it is asked for, and the report
abbrev pub text_of_run : ℕ → RunMode → Host → List Event → BookView → View → ReportView → List ℕ
text_of_run rounds mode host events book view report =
    run_text mode host (changes_of events book.outcomes) book.course rounds
    (stints_at (state_of book.course view)) report

-- the lines of the script's bursts before it, if they are asked for
abbrev pub burst_part : RunMode → Host → List Event → List BurstAnswer → List ℕ
burst_part Burst host events answers = bursts_text host events answers
burst_part mode host events answers = []

-- what `run` makes of a host and of a script of it, for so many rounds in a mode and for a run of this view: a text,
-- or a refusal with its cause
pub data Runs (rounds : ℕ) (mode : RunMode) (view : View) (host : Host) (events : List Event)
    (sections : List (List ℕ)) : CallOutcome → Type 0 where
  Ran : (book : BookView) (report : ReportView) (answers : List BurstAnswer) → IsBookOf host events book
      → RunsWhole rounds host events book.course view
      → ((bound : ℕ) → IsTooLong rounds mode book.course bound → ⊥)
      → IsReportOfState book.course (state_of book.course view) report
      → (mode ≡ Burst → AreBurstAnswers book.course rounds (state_of book.course view) events answers)
      → Runs rounds mode view host events sections (Writes (burst_part mode host events answers
      ++ text_of_run rounds mode host events book view report))
  Unplanned : (refusal : Status) → HasNoPlan [] host refusal
      → Runs rounds mode view host events sections (Refuses refusal (names_of host.vcpus))
  TraceTooLong : (book : BookView) (bound : ℕ) → IsBookOf host events book
      → IsTooLong rounds mode book.course bound
      → Runs rounds mode view host events sections (Refuses (status.TraceTooLong bound) [])
