-- The wrap-around layout of an allotment on cores.
-- Source: R. McNaughton, "Scheduling with deadlines and loss functions", Management Science 6, 1959.
use Rattle.std.specs.Prelude.{◌≡◌, ℕ, ◌+◌, ◌-◌, ◌*◌, ◌<◌, ◌≤◌, nat_lt, if◌then◌else◌, List, [], ◌∷◌, Option, Some, None, length, slice_index, slice_index_or, slice_get}
use Rattle.tab_core.specs.declared.TheConstants.{ROUND}
use Rattle.tab_core.specs.declared.periodic.Periodic.{Periodic}
use Rattle.table_form.specs.Tables.Homes.{HaveHomes, IsHome}
use Rattle.table_form.specs.Tables.Plans.{PlanView}
use Rattle.table_form.specs.Tables.Rows.{Row}
use Rattle.table_form.specs.Tables.Serves.{cells_within, owner_at}
use Rattle.flow_net.specs.Allotments.{AllotmentView}
use Rattle.flow_net.specs.Rows.{row_at}

-- the owner of a position where ticks are laid in rising vCPU number, one after the other
unfoldable pub owner_from : ℕ → List ℕ → ℕ → Option ℕ
owner_from v [] q = None
owner_from v (n ∷ ns) q = if nat_lt q n then Some v else owner_from (v + 1) ns (q - n)

-- the length of an interval
abbrev pub length_at : AllotmentView → ℕ → ℕ
length_at a i = slice_index a.marks (i + 1) - slice_index a.marks i

-- In each interval the positions run along core 0, then core 1, and so on; each core offers the
-- interval's length.
pub record AreWrapped (a : AllotmentView) (cores : ℕ) (rows : List Row) : Type 0 where
  pub count : length rows ≡ cores
  pub lengths : (c : ℕ) (row : Row) → slice_get rows c ≡ Some row → length row ≡ ROUND
  pub cells : (c i t : ℕ) → c < cores → i < length a.ticks → t < length_at a i
      → owner_at rows c (slice_index a.marks i + t) ≡ owner_from 0 (row_at a.ticks i) (c * length_at a i + t)

-- the core with most of the vCPU's cells, of those the lowest
pub record IsMostOn (rows : List Row) (v core : ℕ) : Type 0 where
  pub within : core < length rows
  pub most : (d : ℕ) → d < length rows
      → cells_within v (slice_index_or rows d []) 0 ROUND
      ≤ cells_within v (slice_index_or rows core []) 0 ROUND
  pub lowest : (d : ℕ) → d < core
      → cells_within v (slice_index_or rows d []) 0 ROUND
      < cells_within v (slice_index_or rows core []) 0 ROUND

-- The plan of an allotment: these tasks, its wrapped rows, and as the home of each admitted vCPU the
-- core with most of its cells.
pub record IsWrapped (tasks : List (Option Periodic)) (a : AllotmentView) (cores : ℕ) (plan : PlanView) : Type
    0 where
  pub tasks_are : plan.tasks ≡ tasks
  pub rows_are : AreWrapped a cores plan.rows
  pub housed : HaveHomes tasks plan.homes plan.rows
  pub homes_are : (v core : ℕ) → IsHome plan.homes core v → IsMostOn plan.rows v core
