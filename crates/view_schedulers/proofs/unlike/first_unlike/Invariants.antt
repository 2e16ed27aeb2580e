use Rattle.std.proofs.Common.{◌≡◌, None}
use Rattle.view_schedulers.specs.Unkept.{first_below}
use Rattle.view_schedulers.specs.Unlike.{unlike_fault}
use Rattle.view_schedulers.proofs.unlike.first_unlike.Given as goal

-- the vCPUs so far have no fault
abbrev pub invariant-loop-vcpu : goal.invariant-loop-vcpu
invariant-loop-vcpu l = first_below (unlike_fault l.tick_ns l.names l.tasks) l.vcpu ≡ None
