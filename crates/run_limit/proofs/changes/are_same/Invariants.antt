use Rattle.std.proofs.Common.{◌≡◌, ℕ, ◌<◌, Some}
use Rattle.run_limit.specs.declared.lanes.Lane.{Lane}
use Rattle.run_limit.specs.Inside.Walks.{IsHere, IsListed, WasHere}
use Rattle.run_limit.proofs.changes.are_same.Given as goal

-- in the lanes so far nobody came or went
abbrev pub invariant-loop-at : goal.invariant-loop-at
invariant-loop-at l = record {
  stay : (k v : ℕ) (lane : Lane) → k < l.at → IsListed l.lanes k lane → lane.was ≡ Some v → IsHere l.lanes v;
  are_old : (k v : ℕ) (lane : Lane) → k < l.at → IsListed l.lanes k lane → lane.owner ≡ Some v → WasHere l.lanes v;
}
