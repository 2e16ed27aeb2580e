use Rattle.std.proofs.Common.{◌≡◌}
use Rattle.view_table.specs.Groups.{any_below}
use Rattle.view_table.specs.Loads.{has_slot_on}
use Rattle.view_table.proofs.data.stands_below.Given as goal

abbrev pub invariant-loop-core : goal.invariant-loop-core
invariant-loop-core l = l.found ≡ any_below (has_slot_on l.view.slots.items l.vcpu) l.core
