use Rattle.std.proofs.Common.{◌≡◌, ℕ, ◌<◌, ◌≤◌, length}
use Rattle.trace_report.specs.ReportViews.{vcpu_at}
use Rattle.trace_report.specs.RunReports.{with_account}
use Rattle.trace_report.proofs.adding.add_vcpus.Given as goal

abbrev pub invariant-loop-v : goal.invariant-loop-v
invariant-loop-v l = record {
  size : length l.vcpus ≡ length l.fn.vcpus;
  done : (u : ℕ) → u < l.v → vcpu_at l.vcpus u ≡ with_account (vcpu_at l.fn.vcpus u) l.account u;
  rest : (u : ℕ) → l.v ≤ u → vcpu_at l.vcpus u ≡ vcpu_at l.fn.vcpus u;
}
