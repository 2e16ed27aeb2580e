use Rattle.std.proofs.Common.{◌≡◌, ℕ, ◌<◌, length}
use Rattle.run_counts.specs.Stretches.{stretch_at}
use Rattle.trace_report.specs.Inside.Sound.{counted}
use Rattle.trace_report.specs.ReportViews.{vcpu_at}
use Rattle.trace_report.proofs.filling.take_waits.Given as goal

abbrev pub invariant-loop-v : goal.invariant-loop-v
invariant-loop-v l = record {
  size : length l.vcpus ≡ length l.fn.vcpus;
  done : (u : ℕ) → u < l.v → vcpu_at l.vcpus u ≡ counted (stretch_at l.run u);
}
