use Rattle.std.proofs.Common.{◌≡◌, ℕ, ◌<◌, ◌≤◌, length}
use Rattle.run_counts.specs.Inside.Repeats.{repeated}
use Rattle.run_counts.specs.Stretches.{joined, stretch_at}
use Rattle.run_counts.proofs.counting.append.Given as goal

abbrev pub invariant-loop-v : goal.invariant-loop-v
invariant-loop-v l = record {
  size : length l.run ≡ length l.fn.run;
  done : (u : ℕ) → u < l.v
      → stretch_at l.run u ≡ joined (stretch_at l.fn.run u) (repeated (stretch_at l.round u) l.rounds);
  rest : (u : ℕ) → l.v ≤ u → stretch_at l.run u ≡ stretch_at l.fn.run u;
}
