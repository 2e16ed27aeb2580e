-- The whole run of a course as a crew keeps it.
use Rattle.std.specs.Prelude.{◌≡◌, ℕ, Some}
use Rattle.table_form.specs.Running.Courses.{CourseView}
use Rattle.table_form.specs.Running.Complete.{IsComplete}
use Rattle.table_form.specs.Running.Invariant.{StateInvariant}
use Rattle.table_form.specs.Running.State.{State, CoreState, IsCore}
use Rattle.dispatch_core.specs.States.{StateView}
use Rattle.core_workers.specs.Views.{CrewView, actor_of}

-- a whole run of the course led to the state, and the crew's actors have its rounds' used counts and all its stints
pub record IsKeptRun (course : CourseView) (rounds : ℕ) (crew : CrewView) (s : State) : Type 0 where
  pub course_is : crew.course ≡ course
  pub invariant : StateInvariant course rounds s
  pub complete : IsComplete course rounds s
  pub used : (c : ℕ) (a : StateView) → actor_of crew c ≡ Some a → a.used ≡ s.decided
  pub stints : (c : ℕ) (a : StateView) (core : CoreState) → actor_of crew c ≡ Some a → IsCore s c core
      → a.stints ≡ core.stints
