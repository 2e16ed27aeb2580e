use Rattle.std.proofs.Common.{◌≡◌, min, take}
use Rattle.std.specs.List.{sum_by}
use Rattle.tab_core.specs.declared.TheConstants.{ROUND}
use Rattle.view_table.specs.Loads.{ticks_on}
use Rattle.view_table.proofs.rows.load_of.Given as goal

abbrev pub invariant-loop-slot : goal.invariant-loop-slot
invariant-loop-slot l = l.load ≡ min (sum_by (ticks_on l.core) (take l.slot-index l.slots)) ROUND
