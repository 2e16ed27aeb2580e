use Rattle.std.proofs.Common.{◌≡◌, take}
use Rattle.tool_hosts.specs.Earlier.{others_in}
use Rattle.tool_hosts.proofs.earlier.others_of.Given as goal

-- the others so far
abbrev pub invariant-loop-number : goal.invariant-loop-number
invariant-loop-number l = l.others.items ≡ others_in (take l.number l.is_back) (take l.number l.vms)
