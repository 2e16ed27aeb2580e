-- What a live run begins with, what it comes to, and what it is reported with.
use Rattle.std.specs.Prelude.{◌≡◌, ℕ, IfNone, List, Option, None, Some, length}
use Rattle.tab_core.specs.declared.host.Host.{Host}
use Rattle.script_doc.specs.declared.event.Event.{Event}
use Rattle.table_form.specs.Running.Courses.{CourseView, IsCourse}
use Rattle.table_form.specs.Running.Complete.{IsComplete}
use Rattle.table_form.specs.Running.Invariant.{StateInvariant}
use Rattle.table_form.specs.Promises.Run.{KeepsPromises}
use Rattle.plan_book.specs.Books.{BookView, IsBookOf}
use Rattle.plan_book.specs.declared.outcome.Outcome.{Outcome}
use Rattle.round_words.specs.declared.view.View.{View}
use Rattle.run_state.specs.Readings.{state_of}
use Rattle.core_workers.specs.Crews.{IsNewView}
use Rattle.trace_report.specs.ReportViews.{ReportView}
use Rattle.trace_report.specs.RunReports.{HasRoom, vcpu_count}
use Rattle.run_course.specs.Changes.{changes_of}
use Rattle.live_plan.specs.Actors.{LiveActorView}
use Rattle.live_plan.specs.Books.{LiveView}
use Rattle.live_plan.specs.Courses.{IsLiveCourse}
use Rattle.live_plan.specs.Crews.{HoldsLiveCrew, IsCrewOf, LiveCrewAgrees, LiveCrewView, actors_of, bare, live_actor_of}

-- the crew is of a run of the book that hasn't begun
pub record IsLiveReady (rounds : ℕ) (b : LiveView) (crew : LiveCrewView) : Type 0 where
  pub crew_of : IsCrewOf b crew
  pub rounds_are : crew.rounds ≡ rounds
  pub agree : (v : View) → IsNewView (bare b) v → LiveCrewAgrees b crew v

-- the crew ran the book's events for so many rounds, and the view tells how far it came; where memory ran out for no
-- change, it came to the end
pub record LiveCrewHasRun (b : LiveView) (rounds : ℕ) (crew : LiveCrewView) (view : View) (stopped : Option ℕ) : Type 0 where
  pub crew_of : IsCrewOf b crew
  pub rounds_are : crew.rounds ≡ rounds
  pub agree : LiveCrewAgrees b crew view
  pub holds : HoldsLiveCrew crew view
  pub kept : (course : CourseView) → IsLiveCourse b course → StateInvariant course crew.rounds (state_of course view)
  pub promises : (course : CourseView) → IsCourse course → IsLiveCourse b course
      → KeepsPromises course crew.rounds (state_of course view)
  pub complete : IfNone stopped ((course : CourseView) → IsLiveCourse b course
      → IsComplete course crew.rounds (state_of course view))
  pub counts : IfNone stopped ((course : CourseView) → IsLiveCourse b course → (c : ℕ) (a : LiveActorView)
      → live_actor_of crew c ≡ Some a → a.state.used ≡ (state_of course view).decided)

-- these are the cores' actors of a crew that ran so to the end
pub record LiveActorsHaveRun (b : LiveView) (rounds : ℕ) (actors : List LiveActorView) (view : View) : Type 0 where
  pub crew : LiveCrewView
  pub ran : LiveCrewHasRun b rounds crew view None
  pub are : actors ≡ actors_of crew

-- the book and the changes are the script's for the host, and the report has room for a run of so many rounds
pub record HasRoomToTell (rounds : ℕ) (host : Host) (events : List Event) (book : BookView)
    (changes : List (ℕ × Outcome)) (report : ReportView) : Type 0 where
  pub book_is : IsBookOf host events book
  pub changes_are : changes ≡ changes_of events book.outcomes
  pub vcpus : length host.vcpus ≡ vcpu_count book.course
  pub room : HasRoom book.course rounds report
