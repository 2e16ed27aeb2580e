use Rattle.std.proofs.Common.{◌≡◌}
use Rattle.view_table.specs.Groups.{any_below, vm_stands}
use Rattle.view_table.proofs.groups.stands_in.Given as goal

abbrev pub invariant-loop-vcpu : goal.invariant-loop-vcpu
invariant-loop-vcpu l = l.found ≡ any_below (vm_stands l.view.names.items l.vm l.view.slots.items l.core) l.vcpu
