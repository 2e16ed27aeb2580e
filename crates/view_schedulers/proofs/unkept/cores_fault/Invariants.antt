use Rattle.std.proofs.Common.{◌≡◌, None}
use Rattle.view_schedulers.specs.Unkept.{core_fault, first_below}
use Rattle.view_schedulers.proofs.unkept.cores_fault.Given as goal

-- the cores so far have no fault
abbrev pub invariant-loop-core : goal.invariant-loop-core
invariant-loop-core l = first_below (core_fault l.scheduler l.tick_ns l.tasks) l.core ≡ None
