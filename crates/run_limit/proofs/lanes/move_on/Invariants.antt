use Rattle.std.proofs.Common.{◌≡◌, ℕ, ◌-◌, ◌<◌, ◌≤◌}
use Rattle.table_form.specs.Tables.Views.{plan_view}
use Rattle.run_limit.specs.declared.lanes.Lane.{Lane}
use Rattle.run_limit.specs.Inside.Walks.{HasLane, IsLane, IsListed, Shows}
use Rattle.run_limit.proofs.lanes.move_on.Given as goal

-- the lanes so far are at the place
abbrev pub invariant-loop-at : goal.invariant-loop-at
invariant-loop-at l = record {
  count : l.lanes.count ≡ l.initial.lanes.count;
  all : (d : ℕ) → HasLane l.initial.lanes d → HasLane l.lanes d;
  lanes : (k : ℕ) (lane : Lane) → k < l.at → IsListed l.lanes k lane
      → IsLane (plan_view l.plan) l.core l.place lane;
  before : (k : ℕ) (lane : Lane) → k < l.at → IsListed l.lanes k lane
      → Shows (plan_view l.plan) l.core (l.place - 1) lane.row lane.was;
  rest : (k : ℕ) (lane : Lane) → l.at ≤ k → IsListed l.lanes k lane
      → IsLane (plan_view l.plan) l.core (l.place - 1) lane;
  ends : (k : ℕ) (lane : Lane) → l.at ≤ k → IsListed l.lanes k lane → l.place ≤ lane.end;
}
