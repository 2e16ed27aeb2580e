-- What is left of a run whose changes were planned beside its cores.
-- Source: the rules of this project.
use Rattle.std.specs.Prelude.{◌≡◌, ℕ, List, length}
use Rattle.tab_core.specs.declared.host.Host.{Host}
use Rattle.script_doc.specs.declared.event.Event.{Event}
use Rattle.table_form.specs.Running.Courses.{CourseView, IsCourse}
use Rattle.table_form.specs.Running.Complete.{IsComplete}
use Rattle.table_form.specs.Promises.Run.{KeepsPromises}
use Rattle.period_choice.specs.Tasks.{IsFirstWithoutPeriod}
use Rattle.plan_make.specs.Planned.{IsFirstWithoutRoom}
use Rattle.plan_make.specs.declared.fault.PlanFault.{PlanFault}
use Rattle.plan_make.specs.declared.fault.PlanFault.TheVariants as fault
use Rattle.plan_book.specs.Books.{BookView, IsBookOf}
use Rattle.plan_book.specs.Courses.{IsCourseOf}
use Rattle.plan_book.specs.declared.outcome.Outcome.{Outcome}
use Rattle.round_words.specs.declared.view.View.{View}
use Rattle.round_words.specs.Views.{IsStarted, unstarted}
use Rattle.run_state.specs.Readings.{state_of}
use Rattle.run_state.specs.RunViews.{HoldsAllParts}
use Rattle.trace_report.specs.ReportViews.{ReportView}
use Rattle.trace_report.specs.RunReports.{vcpu_count}
use Rattle.run_course.specs.Changes.{changes_of}
use Rattle.run_course.specs.Runs.{IsReportOfState}
use Rattle.run_live.specs.declared.ran.LiveFault.{LiveFault}
use Rattle.run_live.specs.declared.ran.LiveFault.TheVariants.{NotBegun, Stopped}

-- The view holds all parts of a board that was started for the events of the host. However far the run came, it
-- keeps all promises by the course that the events make of the host
pub record RunsSoFar (rounds : ℕ) (host : Host) (events : List Event) (view : View) : Type 0 where
  pub started : IsStarted host.lag host.cores (length events) view
  pub holds : HoldsAllParts view
  pub promises : (course : CourseView) → IsCourse course → IsCourseOf host events course
      → KeepsPromises course rounds (state_of course view)

-- the script's book, what became of its changes, each with its tick, and the report
pub record LiveRanView : Type 0 where
  pub book : BookView
  pub changes : List (ℕ × Outcome)
  pub report : ReportView

-- a run that was made, by its book, its changes and its report
abbrev pub live_ran_view : BookView → List (ℕ × Outcome) → ReportView → LiveRanView
live_ran_view book changes report = record { book = book; changes = changes; report = report }

-- the book and the changes are those of the script for the host, the view is of a whole run of the book's
-- course, and the report is that run's
pub record IsLiveRunOf (rounds : ℕ) (host : Host) (events : List Event) (view : View) (ran : LiveRanView) : Type 0 where
  pub book : IsBookOf host events ran.book
  pub course_kept : IsCourse ran.book.course
  pub changes : ran.changes ≡ changes_of events ran.book.outcomes
  pub so_far : RunsSoFar rounds host events view
  pub complete : IsComplete ran.book.course rounds (state_of ran.book.course view)
  pub report : IsReportOfState ran.book.course (state_of ran.book.course view) ran.report
  pub vcpus : length host.vcpus ≡ vcpu_count ran.book.course

-- why the host has no plan; out of memory has no cause
abbrev pub CannotBePlanned : Host → PlanFault → Type 0
CannotBePlanned host (fault.NoPeriod vcpu) = IsFirstWithoutPeriod host vcpu
CannotBePlanned host (fault.NoRoom vcpu rest over) = IsFirstWithoutRoom host vcpu rest over
CannotBePlanned host fault.NoMemory = Unit {0}

-- a run without a report leaves the view as it was, or that of a run so far
abbrev pub LeavesView : ℕ → Host → List Event → LiveFault → View → Type 0
LeavesView rounds host events (NotBegun fault) view = (view ≡ unstarted) × CannotBePlanned host fault
LeavesView rounds host events Stopped view = RunsSoFar rounds host events view

-- the run can be written for the names of the host: its report tells of the host's vCPUs and cores
pub record IsLiveRunWritable (host : Host) (ran : LiveRanView) : Type 0 where
  pub each_vcpu : length ran.report.vcpus ≡ length host.vcpus
  pub each_core : length ran.report.cores ≡ host.cores
