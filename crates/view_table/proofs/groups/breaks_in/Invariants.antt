use Rattle.std.proofs.Common.{◌≡◌}
use Rattle.view_table.specs.Groups.{any_below, vm_breaks}
use Rattle.view_table.proofs.groups.breaks_in.Given as goal

abbrev pub invariant-loop-vcpu : goal.invariant-loop-vcpu
invariant-loop-vcpu l = l.found ≡ any_below (vm_breaks l.tick_ns l.vcpus l.view.names.items l.vm l.view.slots.items) l.vcpu
