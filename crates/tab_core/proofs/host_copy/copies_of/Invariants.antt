use Rattle.std.proofs.Common.{◌≡◌, take}
use Rattle.tab_core.proofs.host_copy.copies_of.Given as goal

-- the vCPUs so far
abbrev pub invariant-loop-vcpu : goal.invariant-loop-vcpu
invariant-loop-vcpu l = l.made.items ≡ take l.vcpu-index l.vcpus
