use Rattle.std.proofs.Common.{◌≡◌, ◌≤◌}
use Rattle.view_table.specs.Groups.{count_where}
use Rattle.view_table.specs.Sums.{vm_changes}
use Rattle.view_table.proofs.sums.vms_changed.Given as goal

abbrev pub invariant-loop-vcpu : goal.invariant-loop-vcpu
invariant-loop-vcpu l = record { value : l.count ≡ count_where (vm_changes l.matter l.old l.new) l.vcpu; small : l.count ≤ l.vcpu }
