-- A run that is at its end.
-- Source: the rules of this project.
use Rattle.std.specs.Prelude.{◌≡◌, ℕ, ◌*◌, length}
use Rattle.tab_core.specs.declared.TheConstants.{ROUND}
use Rattle.table_form.specs.Running.Courses.{CourseView}
use Rattle.table_form.specs.Running.State.{State, CoreState, IsCore}

-- the run is complete: every clock is at its end, and all events are posted
pub record IsComplete (course : CourseView) (rounds : ℕ) (s : State) : Type 0 where
  pub clocks : (c : ℕ) (core : CoreState) → IsCore s c core → core.clock ≡ rounds * ROUND
  pub posted : s.posted ≡ length course.ticks
