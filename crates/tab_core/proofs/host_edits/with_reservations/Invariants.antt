use Rattle.std.proofs.Common.{◌≡◌, map, take}
use Rattle.tab_core.specs.Edits.{reservations_of}
use Rattle.tab_core.proofs.host_edits.with_reservations.Given as goal

-- the vCPUs so far, with their new reservations
abbrev pub invariant-loop-number : goal.invariant-loop-number
invariant-loop-number l = record {
  names : map (λ vcpu. vcpu.name) l.made.items ≡ map (λ vcpu. vcpu.name) (take l.number l.vcpus);
  runnable : map (λ vcpu. vcpu.runnable) l.made.items ≡ map (λ vcpu. vcpu.runnable) (take l.number l.vcpus);
  capped : map (λ vcpu. vcpu.capped) l.made.items ≡ map (λ vcpu. vcpu.capped) (take l.number l.vcpus);
  reservations : reservations_of l.made.items ≡ take l.number l.reservations;
}
