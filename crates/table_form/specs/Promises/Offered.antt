-- The ticks that the rounds' plans offer to a vCPU.
-- Source: the promise of a cost in each period of the Tableau scheduler (M. Vanga, A. Gujarati, B. B.
-- Brandenburg, EuroSys 2018), here across rounds whose plans may differ.
use Rattle.std.specs.Prelude.{◌≡◌, ℕ, zero, suc, ◌+◌, ◌*◌, ◌/◌, ◌%◌, ◌<◌, ◌≤◌, Bool, false, List, Option, Some, None, slice_get, if◌then◌else◌}
use Rattle.std.specs.List.{list_any}
use Rattle.tab_core.specs.declared.TheConstants.{ROUND}
use Rattle.tab_core.specs.declared.periodic.Periodic.{Periodic}
use Rattle.table_form.specs.Running.Courses.{CourseView, plan_after}
use Rattle.table_form.specs.Tables.Rows.{Row}
use Rattle.table_form.specs.Tables.Serves.{flat, is_cell_of}
use Rattle.table_form.specs.Running.State.{State}

-- some row has the vCPU at the place
abbrev pub some_row_has : List Row → ℕ → ℕ → Bool
some_row_has rows v place = list_any (λ row. is_cell_of v (flat (slice_get row place))) rows

-- the plan of a count, if there is one, has the vCPU in some row at the place
abbrev pub offers_by : CourseView → Option ℕ → ℕ → ℕ → Bool
offers_by course None v place = false
offers_by course (Some count) v place = some_row_has (plan_after course count).rows v place

-- the tick is offered to the vCPU: its round was entered, and some row of the round's plan has the
-- vCPU there, runnable or not
abbrev pub is_offered : CourseView → List ℕ → ℕ → ℕ → Bool
is_offered course decided v x = offers_by course (slice_get decided (x / ROUND)) v (x % ROUND)

-- how many of the n ticks from `from` on are offered to the vCPU
unfoldable pub offers : CourseView → List ℕ → ℕ → ℕ → ℕ → ℕ
offers course decided v from zero = 0
offers course decided v from (suc n) =
    offers course decided v from n + (if is_offered course decided v (from + n) then 1 else 0)

-- the vCPU's task in the plan of a count, if there is one
abbrev pub task_by : CourseView → Option ℕ → ℕ → Option Periodic
task_by course None v = None
task_by course (Some count) v = flat (slice_get (plan_after course count).tasks v)

-- the vCPU's task in the plan of an entered round, if it has one
abbrev pub task_in : CourseView → List ℕ → ℕ → ℕ → Option Periodic
task_in course decided r v = task_by course (slice_get decided r) v

-- each vCPU is offered its cost in each of its periods of each entered round
abbrev pub IsServed : CourseView → State → Type 0
IsServed course s = (r v k : ℕ) (task : Periodic) → task_in course s.decided r v ≡ Some task
    → k < ROUND / task.period →
    task.cost ≤ offers course s.decided v (r * ROUND + k * task.period) task.period
