use Rattle.std.proofs.Common.{◌≡◌, ◌≤◌}
use Rattle.view_table.specs.Groups.{count_where, is_of_vm}
use Rattle.view_table.proofs.groups.count_in.Given as goal

abbrev pub invariant-loop-vcpu : goal.invariant-loop-vcpu
invariant-loop-vcpu l = record { value : l.count ≡ count_where (is_of_vm l.view.names.items l.vm) l.vcpu; small : l.count ≤ l.vcpu }
