use Rattle.std.proofs.Common.{◌≡◌, ℕ, ◌<◌, length, take}
use Rattle.std.specs.Prelude.{slice_index}
use Rattle.view_table.specs.Given.{given_to}
use Rattle.view_table.proofs.figures.given_of.Given as goal

-- the ticks of the slots so far are added
abbrev pub invariant-loop-slot : goal.invariant-loop-slot
invariant-loop-slot l = record {
  size : length l.given.items ≡ l.count;
  each : (v : ℕ) → v < l.count → slice_index l.given.items v ≡ given_to (take l.slot-index l.slots) v;
}
