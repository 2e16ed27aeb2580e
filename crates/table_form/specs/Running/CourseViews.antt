-- What contracts see of a course.
use Rattle.std.specs.Prelude.{ℕ, Bool, List, map}
use Rattle.table_form.specs.declared.plan.Plan.{Plan}
use Rattle.table_form.specs.Running.Courses.{CourseView}
use Rattle.table_form.specs.Tables.Views.{plan_view}

-- a course as contracts see it, by its parts
abbrev pub course_view : ℕ → ℕ → ℕ → List ℕ → List Plan → List ℕ → List (List Bool) → CourseView
course_view cores lag quantum ticks plans numbers runnable = record {
  cores = cores;
  lag = lag;
  quantum = quantum;
  ticks = ticks;
  plans = map plan_view plans;
  numbers = numbers;
  runnable = runnable;
}
