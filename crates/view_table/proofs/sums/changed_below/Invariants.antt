use Rattle.std.proofs.Common.{◌≡◌, ◌≤◌}
use Rattle.view_table.specs.Groups.{count_where}
use Rattle.view_table.specs.Sums.{is_changed}
use Rattle.view_table.proofs.sums.changed_below.Given as goal

abbrev pub invariant-loop-vcpu : goal.invariant-loop-vcpu
invariant-loop-vcpu l = record { value : l.count ≡ count_where (is_changed l.matter l.old l.new) l.vcpu; small : l.count ≤ l.vcpu }
