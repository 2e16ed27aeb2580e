use Rattle.std.proofs.Common.{◌≡◌}
use Rattle.view_table.specs.Groups.{any_below, is_of_vm}
use Rattle.view_table.proofs.groups.has_vm.Given as goal

abbrev pub invariant-loop-vcpu : goal.invariant-loop-vcpu
invariant-loop-vcpu l = l.found ≡ any_below (is_of_vm l.view.names.items l.vm) l.vcpu
