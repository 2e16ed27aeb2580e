use Rattle.std.proofs.Common.{◌≡◌, drop}
use Rattle.view_schedulers.specs.Unkept.{split_fault}
use Rattle.view_schedulers.proofs.unkept.split_fault.Given as goal

-- what is left decides
abbrev pub invariant-loop-slot : goal.invariant-loop-slot
invariant-loop-slot l = split_fault l.tasks l.slots ≡ split_fault l.tasks (drop l.slot-index l.slots)
