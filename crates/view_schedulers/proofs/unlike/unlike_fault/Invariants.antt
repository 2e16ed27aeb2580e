use Rattle.std.proofs.Common.{◌≡◌, None}
use Rattle.view_schedulers.specs.Unkept.{first_below}
use Rattle.view_schedulers.specs.Unlike.{unlike_pair}
use Rattle.view_schedulers.proofs.unlike.unlike_fault.Given as goal

-- the vCPUs so far have no fault
abbrev pub invariant-loop-other : goal.invariant-loop-other
invariant-loop-other l = first_below (unlike_pair l.tick_ns l.names l.tasks l.vcpu) l.other ≡ None
