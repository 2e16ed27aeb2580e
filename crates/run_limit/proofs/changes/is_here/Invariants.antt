use Rattle.std.proofs.Common.{◌≡◌, ℕ, ◌<◌, Some}
use Rattle.std.specs.Prelude.{slice_get}
use Rattle.run_limit.specs.declared.lanes.Lane.{Lane}
use Rattle.run_limit.proofs.changes.is_here.Given as goal

-- none of the lanes so far has it
abbrev pub invariant-loop-at : goal.invariant-loop-at
invariant-loop-at l = (k : ℕ) (lane : Lane) → k < l.at → slice_get l.lanes.items k ≡ Some lane
    → lane.owner ≡ l.owner → ⊥
