use Rattle.std.proofs.Common.{◌≡◌, ℕ, ◌<◌, length}
use Rattle.run_counts.specs.Stretches.{no_ticks, stretch_at}
use Rattle.run_counts.proofs.describing.clear.Given as goal

abbrev pub invariant-loop-v : goal.invariant-loop-v
invariant-loop-v l = record {
  size : length l.stretches ≡ length l.fn.stretches;
  none : (u : ℕ) → u < l.v → stretch_at l.stretches u ≡ no_ticks;
}
