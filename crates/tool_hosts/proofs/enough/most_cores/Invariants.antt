use Rattle.std.proofs.Common.{◌≤◌}
use Rattle.tab_core.specs.declared.TheConstants.{MAX_CORES}
use Rattle.tool_hosts.proofs.enough.most_cores.Given as goal

-- the most cores so far
abbrev pub invariant-loop-host : goal.invariant-loop-host
invariant-loop-host l = record {
  some : 1 ≤ l.most;
  few : l.most ≤ MAX_CORES;
}
