-- What the trace of a whole run with its report after it tells and shows: the stints of all cores.
use Rattle.std.specs.Prelude.{◌≡◌, ℕ, zero, suc, ◌<◌, ◌≤◌, ◌^◌, true, List, [], ◌++◌, length, map, All}
use Rattle.tab_core.specs.declared.TheConstants.{MAX_EVENTS, MAX_ROUNDS}
use Rattle.tab_core.specs.declared.host.Host.{Host}
use Rattle.tab_core.specs.declared.stint.Stint.{Stint}
use Rattle.table_form.specs.Running.Courses.{CourseView}
use Rattle.table_form.specs.Running.Complete.{IsComplete}
use Rattle.table_form.specs.Promises.Run.{KeepsPromises}
use Rattle.table_form.specs.Running.State.{State}
use Rattle.run_counts.specs.declared.round_plan.RoundPlan.{RoundPlan}
use Rattle.plan_book.specs.Books.{NamesVcpuBelow}
use Rattle.plan_book.specs.declared.outcome.Outcome.{Outcome}
use Rattle.trace_report.specs.ReportViews.{ReportView}
use Rattle.trace_report.specs.declared.ticks.CoreTicks.{CoreTicks}
use Rattle.trace_report.specs.declared.ticks.VcpuTicks.{VcpuTicks}
use Rattle.run_course.specs.Runs.{IsReportOfState}
use Rattle.view_doc.specs.Grammar.{Front}
use Rattle.view_doc.specs.Lines.{Told, report as report_line, item, done}
use Rattle.view_doc.specs.Texts.{IsText}
use Rattle.view_doc.specs.Views.{stretch_told}
use Rattle.view_doc.specs.declared.view.View.{View}
use Rattle.view_laws.specs.ShownRuns.{IsHostWithCourse, stint_told}

-- ---- the run

-- a change of the script, by its tick and what became of it
pub record IsChangeOf (count : ℕ) (change : ℕ × Outcome) : Type 0 where
  pub tick : change.0 < 2 ^ 32
  pub named : NamesVcpuBelow count change.1

-- numbers are those of their types
pub record AreRoundNumbers (r : RoundPlan) : Type 0 where
  pub round : r.round < 2 ^ 32
  pub plan : r.plan < 2 ^ 32

-- a vCPU's numbers in a report are below 2^64, and its gap is below 2^32
pub record AreVcpuNumbers (t : VcpuTicks) : Type 0 where
  pub offered : t.offered < 2 ^ 64
  pub slots : t.slots < 2 ^ 64
  pub shared : t.shared < 2 ^ 64
  pub gap : t.gap < 2 ^ 32

-- a core's numbers in a report are below 2^64
pub record AreCoreNumbers (t : CoreTicks) : Type 0 where
  pub slots : t.slots < 2 ^ 64
  pub shared : t.shared < 2 ^ 64
  pub idle : t.idle < 2 ^ 64

-- all numbers of a report are within their types
pub record HasReportNumbers (told : ReportView) : Type 0 where
  pub plans : All AreRoundNumbers told.plans
  pub vcpus : All AreVcpuNumbers told.vcpus
  pub cores : All AreCoreNumbers told.cores

-- the state is that of a whole run of so many rounds of a host's course, and these are the changes of its
-- script and its report
pub record IsWholeRun (host : Host) (changes : List (ℕ × Outcome)) (course : CourseView) (rounds : ℕ)
    (state : State) (told : ReportView) : Type 0 where
  pub host_course : IsHostWithCourse host course
  pub some_round : 1 ≤ rounds
  pub few_rounds : rounds ≤ MAX_ROUNDS
  pub promises : KeepsPromises course rounds state
  pub complete : IsComplete course rounds state
  pub report : IsReportOfState course state told
  pub changes_of : All (IsChangeOf (length host.vcpus)) changes
  pub few_changes : length changes ≤ MAX_EVENTS
  pub numbers : HasReportNumbers told

-- ---- what is shown

-- the stints of the cores below a number, core by core
abbrev pub stints_below : List (List ℕ) → CourseView → (ℕ → List Stint) → ℕ → List Told
stints_below names course stints zero = []
stints_below names course stints (suc n) =
    stints_below names course stints n ++ map (stint_told names course n) (stints n)

-- the view shows the stints of all cores, core by core, and no plan
pub record ShowsStints (names : List (List ℕ)) (course : CourseView) (stints : ℕ → List Stint) (view : View)
    : Type 0 where
  pub no_cores : view.cores ≡ 0
  pub run : view.is_run ≡ true
  pub no_task : view.tasks.items ≡ []
  pub no_slot : view.slots.items ≡ []
  pub no_entry : view.entries.items ≡ []
  pub shown : map (stretch_told view.names.items) view.stints.items
      ≡ stints_below names course stints course.cores

-- ---- what the text tells

-- a line of the report
abbrev pub IsOfReport : Told → Type 0
IsOfReport (report_line words) = Unit {0}
IsOfReport (item words) = Unit {0}
IsOfReport done = Unit {0}
IsOfReport _ = ⊥

-- the text tells these stints, and then a report
pub record IsTraceText (bytes : List ℕ) (stints : List Told) : Type 0 where
  pub behind : List Told
  pub of_report : All IsOfReport behind
  pub front : Front
  pub text : IsText bytes (stints ++ behind) front
