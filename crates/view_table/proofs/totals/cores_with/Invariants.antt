use Rattle.std.proofs.Common.{◌≡◌, ◌≤◌}
use Rattle.view_table.specs.Groups.{count_where}
use Rattle.view_table.specs.Loads.{has_slot_on}
use Rattle.view_table.proofs.totals.cores_with.Given as goal

abbrev pub invariant-loop-core : goal.invariant-loop-core
invariant-loop-core l = record { value : l.count ≡ count_where (has_slot_on l.view.slots.items l.vcpu) l.core; small : l.count ≤ l.core }
