-- What a run by threads gives back.
-- Source: the rules of this project.
use Rattle.std.specs.Prelude.{◌≡◌, ℕ, ◌<◌, ◌≤◌, All, Bool, true, false, List, [], Option, None, Some, length, slice_get}
use Rattle.tab_core.specs.declared.host.Host.{Host}
use Rattle.tab_core.specs.declared.stint.Stint.{Stint}
use Rattle.tab_words.specs.declared.command.RunMode.{RunMode}
use Rattle.tab_words.specs.declared.command.RunMode.TheVariants.{Trace, Burst}
use Rattle.table_form.specs.Running.Courses.{CourseView, IsCourse, outline_of}
use Rattle.table_form.specs.Running.Complete.{IsComplete}
use Rattle.table_form.specs.Promises.Run.{KeepsPromises}
use Rattle.table_form.specs.Running.State.{CoreState, State}
use Rattle.run_limit.specs.StintBounds.{IsStintBound}
use Rattle.run_counts.specs.Accounts.{IsAccountOf}
use Rattle.dispatch_core.specs.Parts.{IsOfOutline}
use Rattle.dispatch_core.specs.States.{StateView}
use Rattle.run_counts.specs.declared.account.CoreAccount.{CoreAccount}
use Rattle.round_words.specs.declared.view.View.{View}
use Rattle.run_state.specs.Readings.{state_of}
use Rattle.run_state.specs.RunViews.{HoldsAllParts}
use Rattle.core_workers.specs.Views.{CrewView, actor_of}
use Rattle.trace_report.specs.ReportViews.{ReportView}
use Rattle.trace_report.specs.RunReports.{IsReportOf}

-- ---- a state's stints and report

-- the stints of a core that may be missing
abbrev pub stints_of : Option CoreState → List Stint
stints_of None = []
stints_of (Some core) = core.stints

-- the stints of a core
abbrev pub stints_at : State → ℕ → List Stint
stints_at s c = stints_of (slice_get s.cores c)

-- the accounts are those of the cores' stints, by core number
pub record AreAccountsOf (course : CourseView) (s : State) (accounts : List CoreAccount) : Type 0 where
  pub size : length accounts ≡ length s.cores
  pub each : (c : ℕ) (account : CoreAccount) → slice_get accounts c ≡ Some account
      → IsAccountOf course c (stints_at s c) account

-- the report of a run that led to the state: of the counts of its rounds and of its cores' stints
pub record IsReportOfState (course : CourseView) (s : State) (report : ReportView) : Type 0 where
  pub accounts : List CoreAccount
  pub are : AreAccountsOf course s accounts
  pub is : IsReportOf course s.decided accounts report

-- ---- a trace's length

-- all stints are kept: they are written, or looked through for bursts
abbrev pub keeps_stints : RunMode → Bool
keeps_stints Trace = true
keeps_stints Burst = true
keeps_stints mode = false

-- all stints are to be kept, and may be more than can be
pub record IsTooLong (rounds : ℕ) (mode : RunMode) (course : CourseView) (bound : ℕ) : Type 0 where
  pub asked : keeps_stints mode ≡ true
  pub is : IsStintBound course rounds bound
  pub beyond : 1048576 < bound

-- ---- what comes back

-- the run's actors and its report
pub record RanView : Type 0 where
  pub crew : CrewView
  pub report : ReportView

-- a finished run by its crew and its report
abbrev pub ran_view : CrewView → ReportView → RanView
ran_view crew report = record { crew = crew; report = report }

-- the stints that an actor kept, if it is there
abbrev pub kept_in : Option StateView → List Stint
kept_in None = []
kept_in (Some a) = a.stints

-- the stints that are kept of a core
abbrev pub kept_stints : RanView → ℕ → List Stint
kept_stints ran c = kept_in (actor_of ran.crew c)

-- the view is of all parts of a whole run of the course, read as a state it keeps all promises, the report is
-- that state's, and the actors have its used counts and, where they are to, all its stints
pub record IsRunOf (course : CourseView) (rounds : ℕ) (mode : RunMode) (view : View) (ran : RanView) : Type 0 where
  pub course_is : ran.crew.course ≡ course
  pub course_kept : IsCourse course
  pub started : IsOfOutline (outline_of course) view
  pub holds : HoldsAllParts view
  pub promises : KeepsPromises course rounds (state_of course view)
  pub complete : IsComplete course rounds (state_of course view)
  pub report : IsReportOfState course (state_of course view) ran.report
  pub used : (c : ℕ) (a : StateView) → actor_of ran.crew c ≡ Some a → a.used ≡ (state_of course view).decided
  pub stints : keeps_stints mode ≡ true → (c : ℕ) → c < course.cores
      → kept_stints ran c ≡ stints_at (state_of course view) c

-- the run can be written for the names of the host: its report tells of the host's vCPUs and cores, and the
-- stints of its trace have counts of its course
pub record IsRunWritable (mode : RunMode) (host : Host) (ran : RanView) : Type 0 where
  pub each_vcpu : length ran.report.vcpus ≡ length host.vcpus
  pub each_core : length ran.report.cores ≡ host.cores
  pub used : keeps_stints mode ≡ true → (c : ℕ) → c < ran.crew.course.cores
      → All (λ (s : Stint). s.used ≤ length ran.crew.course.ticks) (kept_stints ran c)
