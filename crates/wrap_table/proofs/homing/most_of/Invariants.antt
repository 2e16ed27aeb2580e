-- the first cores are counted
use Rattle.std.proofs.Common.{◌≡◌, ℕ, ◌<◌, length}
use Rattle.wrap_table.specs.Inside.Homing.{IsMostOfFirst, most_at}
use Rattle.wrap_table.proofs.homing.most_of.Given as goal

abbrev pub invariant-loop-core : goal.invariant-loop-core
invariant-loop-core l = record {
  size : length l.most.items ≡ l.width;
  most : (v : ℕ) → v < l.width → IsMostOfFirst l.rows v l.core (most_at l.most.items v);
}
