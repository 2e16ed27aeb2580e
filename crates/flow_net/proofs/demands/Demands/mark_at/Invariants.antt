use Rattle.std.proofs.Common.{◌≡◌, ℕ, ◌-◌, ◌≤◌, length, get_or}
use Rattle.flow_net.proofs.demands.Demands.mark_at.Given as goal

abbrev pub invariant-loop-low : goal.invariant-loop-low
invariant-loop-low l = record {
  order : l.low ≤ l.high;
  within : l.high ≤ length l.self.marks.items - 1;
  between : (i : ℕ) → i ≤ length l.self.marks.items - 1 → get_or l.self.marks.items i 0 ≡ l.tick
      → (l.low ≤ i) × (i ≤ l.high);
}

abbrev pub decreases-loop-low : goal.decreases-loop-low
decreases-loop-low l = l.high - l.low
