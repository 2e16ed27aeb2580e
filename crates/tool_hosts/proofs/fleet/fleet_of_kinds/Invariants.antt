use Rattle.std.proofs.Common.{◌≤◌, length}
use Rattle.tool_hosts.specs.declared.fleet.TheConstants.{MAX_HOSTS}
use Rattle.tool_hosts.proofs.fleet.fleet_of_kinds.Given as goal

-- the hosts so far are few
abbrev pub invariant-loop-line : goal.invariant-loop-line
invariant-loop-line l = length l.hosts.items ≤ MAX_HOSTS
