-- A bound on the number of stints of a run: a stint ends with its span, after the lag, or after the quantum.
-- Source: this project's own.
use Rattle.std.specs.Prelude.{◌≡◌, ℕ, ◌+◌, ◌*◌, ◌/◌, ◌<◌, ◌≤◌, List, Some, length, slice_get, slice_index}
use Rattle.std.specs.List.{sum_by}
use Rattle.tab_core.specs.declared.TheConstants.{ROUND}
use Rattle.table_form.specs.Running.Courses.{CourseView}
use Rattle.table_form.specs.Running.State.{State, CoreState}
use Rattle.table_form.specs.Tables.Plans.{PlanView}
use Rattle.table_form.specs.Tables.Spots.{HasSpans}

-- the largest number of spans that the core's row has in one of the course's plans
pub record IsLargestSpans (course : CourseView) (c most : ℕ) : Type 0 where
  pub at_most : (k : ℕ) (plan : PlanView) → slice_get course.plans k ≡ Some plan
      → (count : ℕ) × HasSpans plan c ROUND count × (count ≤ most)
  pub number : ℕ
  pub plan : PlanView
  pub listed : slice_get course.plans number ≡ Some plan
  pub reached : HasSpans plan c ROUND most

-- the numbers are the largest numbers of spans of the cores' rows, by core number
abbrev pub AreLargestSpans : CourseView → List ℕ → Type 0
AreLargestSpans course spans = (c : ℕ) → c < course.cores → IsLargestSpans course c (slice_index spans c)

-- the most stints of a core in one round, where its rows have at most so many spans
abbrev pub stints_of_round : CourseView → ℕ → ℕ
stints_of_round course spans = spans + ROUND / course.lag + ROUND / course.quantum

-- rounds times the sum over the cores of the most stints in one round
pub record IsStintBound (course : CourseView) (rounds bound : ℕ) : Type 0 where
  pub spans : List ℕ
  pub size : length spans ≡ course.cores
  pub largest : (c most : ℕ) → slice_get spans c ≡ Some most → IsLargestSpans course c most
  pub bound_is : bound ≡ rounds * sum_by (stints_of_round course) spans

-- the stints of all cores
abbrev pub stints_in : State → ℕ
stints_in s = sum_by (λ (core : CoreState). length core.stints) s.cores
