-- How recent a count of events is.
-- Source: the rules of this project.
use Rattle.std.specs.Prelude.{ℕ, ◌+◌, ◌<◌, ◌≤◌, length}
use Rattle.table_form.specs.Running.Courses.{CourseView, tick_at}

-- the count has each event whose tick and the lag come to x at most
abbrev pub HasUpTo : CourseView → ℕ → ℕ → Type 0
HasUpTo course count x = (i : ℕ) → i < length course.ticks → tick_at course i + course.lag ≤ x → i < count

-- the count is fresh at x: it has every event whose tick and the lag come to x at most, and none whose tick
-- is above x and the lag together
pub record IsFresh (course : CourseView) (count x : ℕ) : Type 0 where
  pub has : HasUpTo course count x
  pub none_beyond : (i : ℕ) → i < count → tick_at course i ≤ x + course.lag
