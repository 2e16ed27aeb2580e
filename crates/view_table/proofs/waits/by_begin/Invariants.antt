use Rattle.std.proofs.Common.{◌≡◌, take}
use Rattle.view_table.proofs.waits.by_begin.Given as goal

-- the segments so far are there
abbrev pub invariant-loop-slot : goal.invariant-loop-slot
invariant-loop-slot l = l.order.items ≡ take l.slot-index l.slots
