use Rattle.std.proofs.Common.{◌≡◌, ◌≤◌}
use Rattle.view_table.specs.Groups.{count_where}
use Rattle.view_table.specs.Totals.{is_share_asked}
use Rattle.view_table.proofs.totals.admitted_below.Given as goal

abbrev pub invariant-loop-vcpu : goal.invariant-loop-vcpu
invariant-loop-vcpu l = record { value : l.count ≡ count_where (is_share_asked l.vcpus l.view.names.items) l.vcpu; small : l.count ≤ l.vcpu }
