use Rattle.std.proofs.Common.{◌≡◌, ℕ, ◌<◌, length}
use Rattle.run_counts.specs.declared.walk.TheConstants.{ROWS}
use Rattle.run_counts.specs.Inside.Walks.{IsNext, slot_at}
use Rattle.run_counts.proofs.walk.first_slots.Given as goal

-- the rows so far have theirs
abbrev pub invariant-loop-core : goal.invariant-loop-core
invariant-loop-core l = record {
  size : length l.slots ≡ ROWS;
  next : (d : ℕ) → d < l.core → IsNext l.rows d l.vcpu 0 (slot_at l.slots d);
}
