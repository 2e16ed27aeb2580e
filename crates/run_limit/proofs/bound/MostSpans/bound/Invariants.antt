use Rattle.std.proofs.Common.{◌*◌, ◌≤◌}
use Rattle.run_limit.proofs.LargestLemmas.{IsSumOf}
use Rattle.run_limit.proofs.bound.MostSpans.bound.Given as goal

abbrev pub invariant-loop-core : goal.invariant-loop-core
invariant-loop-core l = record {
  sum : IsSumOf l.course l.core l.sum;
  small : l.sum ≤ l.core * 8589934592;
}
