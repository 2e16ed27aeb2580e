use Rattle.std.proofs.Common.{◌≡◌, take}
use Rattle.tab_core.specs.Edits.{reservations_of}
use Rattle.tab_core.proofs.host_edits.reservations_of.Given as goal

-- the reservations of the vCPUs so far
abbrev pub invariant-loop-vcpu : goal.invariant-loop-vcpu
invariant-loop-vcpu l = l.made.items ≡ reservations_of (take l.vcpu-index l.vcpus)
