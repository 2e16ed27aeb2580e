use Rattle.std.proofs.Common.{◌≡◌, ◌≤◌}
use Rattle.view_table.specs.Groups.{count_where}
use Rattle.view_table.specs.Sums.{is_first}
use Rattle.view_table.proofs.sums.count_vms.Given as goal

abbrev pub invariant-loop-vcpu : goal.invariant-loop-vcpu
invariant-loop-vcpu l = record { value : l.count ≡ count_where (is_first l.view) l.vcpu; small : l.count ≤ l.vcpu }
