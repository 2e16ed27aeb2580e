use Rattle.std.proofs.Common.{◌≡◌, ◌≢◌, ℕ, ◌<◌, ◌≤◌, Some}
use Rattle.table_form.specs.Tables.Homes.{IsHome}
use Rattle.table_form.specs.Tables.Serves.{owner_at}
use Rattle.table_form.specs.Tables.Views.{plan_view}
use Rattle.run_limit.specs.Inside.Walks.{AreLanes, HasLane}
use Rattle.run_limit.proofs.lanes.lanes_of.Given as goal

-- the rows so far have their lanes
abbrev pub invariant-loop-row : goal.invariant-loop-row
invariant-loop-row l = record {
  few : l.lanes.count ≤ l.row;
  all : (d v x : ℕ) → d < l.row → l.core ≢ d → IsHome l.plan.tables.homes l.core v
      → owner_at l.plan.tables.rows d x ≡ Some v → HasLane l.lanes d;
  lanes : AreLanes (plan_view l.plan) l.core 0 l.lanes;
}
