use Rattle.std.proofs.Common.{◌≡◌, ℕ, ◌<◌, ◌≤◌, length}
use Rattle.table_form.specs.Tables.Serves.{has_task}
use Rattle.run_counts.specs.Inside.Sweeps.{closed}
use Rattle.run_counts.specs.Stretches.{stretch_at}
use Rattle.run_counts.proofs.describing.close.Given as goal

abbrev pub invariant-loop-v : goal.invariant-loop-v
invariant-loop-v l = record {
  size : length l.stretches ≡ length l.fn.stretches;
  done : (u : ℕ) → u < l.v → stretch_at l.stretches u ≡ closed (has_task l.tasks u)
      (stretch_at l.fn.stretches u);
  rest : (u : ℕ) → l.v ≤ u → stretch_at l.stretches u ≡ stretch_at l.fn.stretches u;
}
