use Rattle.std.proofs.Common.{◌≡◌, ◌*◌, ◌≤◌}
use Rattle.tab_core.specs.declared.TheConstants.{MAX_ROUNDS, ROUND}
use Rattle.trace_report.specs.RunReports.{sum_below}
use Rattle.trace_report.proofs.adding.total_of.Given as goal

-- the sum so far
abbrev pub invariant-loop-v : goal.invariant-loop-v
invariant-loop-v l = record {
  is : l.total ≡ sum_below l.ticks l.v;
  within : l.total ≤ l.v * (MAX_ROUNDS * ROUND);
}
