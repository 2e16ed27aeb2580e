use Rattle.std.proofs.Common.{◌≡◌, ◌≤◌}
use Rattle.view_table.specs.Groups.{count_where}
use Rattle.view_table.specs.Totals.{is_split}
use Rattle.view_table.proofs.totals.split_below.Given as goal

abbrev pub invariant-loop-vcpu : goal.invariant-loop-vcpu
invariant-loop-vcpu l = record { value : l.count ≡ count_where (is_split l.view.slots.items l.view.cores) l.vcpu; small : l.count ≤ l.vcpu }
