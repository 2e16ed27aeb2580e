use Rattle.std.proofs.Common.{◌-◌, ◌≤◌, length}
use Rattle.tool_hosts.proofs.enough.more_hosts.Given as goal

-- some host is tried
abbrev pub invariant-loop-count : goal.invariant-loop-count
invariant-loop-count l = record {
  some : 1 ≤ length l.left → 1 ≤ l.count;
  few : l.count ≤ length l.left;
}

abbrev pub decreases-loop-count : goal.decreases-loop-count
decreases-loop-count l = length l.left - l.count
