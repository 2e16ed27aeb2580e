use Rattle.std.proofs.Common.{◌≡◌, None}
use Rattle.view_schedulers.specs.Unkept.{first_below, unkept_vcpu}
use Rattle.view_schedulers.proofs.unkept.vcpus_fault.Given as goal

-- the vCPUs so far have no fault
abbrev pub invariant-loop-vcpu : goal.invariant-loop-vcpu
invariant-loop-vcpu l = first_below (unkept_vcpu l.scheduler l.tick_ns l.host l.names l.tasks) l.vcpu ≡ None
