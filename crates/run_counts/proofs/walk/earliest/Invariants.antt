use Rattle.std.proofs.Common.{◌≡◌, ℕ, ◌<◌, ◌≤◌}
use Rattle.tab_core.specs.declared.TheConstants.{ROUND}
use Rattle.run_counts.specs.Inside.Walks.{slot_at}
use Rattle.run_counts.proofs.walk.earliest.Given as goal

-- of the rows so far
abbrev pub invariant-loop-core : goal.invariant-loop-core
invariant-loop-core l = record {
  within : l.begin ≤ ROUND;
  least : (d : ℕ) → d < l.core → l.begin ≤ (slot_at l.slots d).begin;
  there : l.begin < ROUND → (l.first < l.core) × ((slot_at l.slots l.first).begin ≡ l.begin);
}
