use Rattle.std.proofs.Common.{◌≡◌, ◌≤◌}
use Rattle.view_table.specs.Groups.{count_where}
use Rattle.view_table.specs.Totals.{has_all}
use Rattle.view_table.proofs.totals.kept_below.Given as goal

abbrev pub invariant-loop-vcpu : goal.invariant-loop-vcpu
invariant-loop-vcpu l = record { value : l.count ≡ count_where (has_all l.tick_ns l.vcpus l.view.names.items l.view.slots.items) l.vcpu; small : l.count ≤ l.vcpu }
