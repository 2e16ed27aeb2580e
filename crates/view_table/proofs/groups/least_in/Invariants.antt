use Rattle.std.proofs.Common.{◌≡◌}
use Rattle.view_table.specs.Groups.{least_in}
use Rattle.view_table.proofs.groups.least_in.Given as goal

-- the least so far
abbrev pub invariant-loop-vcpu : goal.invariant-loop-vcpu
invariant-loop-vcpu l = l.least ≡ least_in l.vcpus l.view.names.items l.vm l.vcpu
