use Rattle.std.proofs.Common.{ℕ, ◌<◌, ◌≤◌}
use Rattle.tab_core.specs.declared.TheConstants.{ROUND}
use Rattle.run_limit.specs.declared.lanes.Lane.{Lane}
use Rattle.run_limit.specs.Inside.Walks.{IsListed}
use Rattle.run_limit.proofs.lanes.next_end.Given as goal

-- the least of the lanes so far
abbrev pub invariant-loop-at : goal.invariant-loop-at
invariant-loop-at l = record {
  least : (k : ℕ) (lane : Lane) → k < l.at → IsListed l.lanes k lane → l.least ≤ lane.end;
  within : l.least ≤ ROUND;
  behind : (place : ℕ) → place < ROUND
      → ((k : ℕ) (lane : Lane) → IsListed l.lanes k lane → place < lane.end) → place < l.least;
}
