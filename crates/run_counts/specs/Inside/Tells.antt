-- When a stretch tells the truth of the ticks that it stands for.
use Rattle.std.specs.Prelude.{◌≡◌, ℕ, zero, suc, ◌+◌, ◌<◌, ◌≤◌, ◌&&◌, Bool, true, false, is_some, not, List, if◌then◌else◌, slice_get}
use Rattle.tab_core.specs.declared.TheConstants.{ROUND}
use Rattle.table_form.specs.Running.Courses.{CourseView}
use Rattle.table_form.specs.Promises.Gaps.{task_at}
use Rattle.table_form.specs.Promises.Offered.{is_offered, some_row_has}
use Rattle.table_form.specs.Tables.Plans.{PlanView}
use Rattle.table_form.specs.Tables.Serves.{flat}
use Rattle.run_counts.specs.declared.stretch.Stretch.{Stretch}
use Rattle.run_counts.specs.Stretches.{IsSmall}

-- how many of the n ticks from `from` on pass the test
unfoldable pub passing : (ℕ → Bool) → ℕ → ℕ → ℕ
passing test from zero = 0
passing test from (suc n) = passing test from n + (if test (from + n) then 1 else 0)

-- the n ticks from `from` on all wait
abbrev pub AllWait : (ℕ → Bool) → ℕ → ℕ → Type 0
AllWait waits from n = (t : ℕ) → t < n → waits (from + t) ≡ true

-- what is counted of the ticks from `from` on is so
pub record Tells (waits offered : ℕ → Bool) (from : ℕ) (s : Stretch) : Type 0 where
  pub small : IsSmall s
  pub count : s.offered ≡ passing offered from s.ticks
  pub lead : AllWait waits from s.lead
  pub lead_ends : s.lead < s.ticks → waits (from + s.lead) ≡ false
  pub tail : (t : ℕ) → s.ticks ≤ t + s.tail → t < s.ticks → waits (from + t) ≡ true
  pub tail_begins : (t : ℕ) → t + s.tail + 1 ≡ s.ticks → waits (from + t) ≡ false
  pub longest : (t n : ℕ) → t + n ≤ s.ticks → AllWait waits (from + t) n → n ≤ s.most
  pub place : ℕ
  pub inside : place + s.most ≤ s.ticks
  pub reached : AllWait waits (from + place) s.most

-- the vCPU waits at the tick: it has a task there, and isn't offered it
abbrev pub waits_at : CourseView → List ℕ → ℕ → ℕ → Bool
waits_at course decided v x = is_some (task_at course decided v x) && not (is_offered course decided v x)

-- by a plan it waits at the place: it has a task, and no row has it there
abbrev pub waits_in : PlanView → ℕ → ℕ → Bool
waits_in plan v place = is_some (flat (slice_get plan.tasks v)) && not (some_row_has plan.rows v place)

-- the stretch tells of all ticks of a round with this plan
pub record IsToldRound (plan : PlanView) (v : ℕ) (s : Stretch) : Type 0 where
  pub tells : Tells (waits_in plan v) (some_row_has plan.rows v) 0 s
  pub whole : s.ticks ≡ ROUND
