-- A world: a course, how many rounds it runs, the state so far, and what the steps made; and a trace,
-- which is what is left of it.
use Rattle.std.specs.Prelude.{ℕ, List}
use Rattle.table_form.specs.Running.Courses.{CourseView}
use Rattle.table_form.specs.Running.State.{State}
use Rattle.step_machine.specs.declared.trace.Made.{Made}

-- `spare` is how many more steps there is room for, and `made` what the steps made, in their order
pub record WorldView : Type 0 where
  pub course : CourseView
  pub rounds : ℕ
  pub spare : ℕ
  pub state : State
  pub made : List Made

-- `made` is what the steps made, in their order, and `posted` how many events they posted
pub record TraceView : Type 0 where
  pub made : List Made
  pub posted : ℕ
