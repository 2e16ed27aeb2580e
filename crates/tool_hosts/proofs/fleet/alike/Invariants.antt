use Rattle.std.proofs.Common.{◌≡◌, length}
use Rattle.tool_hosts.proofs.fleet.alike.Given as goal

-- the hosts so far
abbrev pub invariant-loop : goal.invariant-loop
invariant-loop l = length l.hosts.items ≡ l.counter
