-- the first vCPUs are counted, and the others as before
use Rattle.std.proofs.Common.{◌≡◌, ℕ, ◌<◌, ◌≤◌, length, get_or}
use Rattle.wrap_table.specs.Inside.Homing.{most_at, with_core}
use Rattle.wrap_table.proofs.homing.count_core.Given as goal

abbrev pub invariant-loop-v : goal.invariant-loop-v
invariant-loop-v l = record {
  size : length l.most.items ≡ length l.initial.most.items;
  done : (w : ℕ) → w < l.v → most_at l.most.items w
      ≡ with_core (most_at l.initial.most.items w) (get_or l.cells.items w 0) l.core;
  todo : (w : ℕ) → l.v ≤ w → most_at l.most.items w ≡ most_at l.initial.most.items w;
}
