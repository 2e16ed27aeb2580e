use Rattle.std.proofs.Common.{◌≡◌, length, map, take}
use Rattle.tests_samples.proofs.host.vcpus_of.Given as goal

abbrev pub invariant-loop-number : goal.invariant-loop-number
invariant-loop-number l = record {
  size : length l.made.items ≡ l.number;
  names : map (λ vcpu. vcpu.name) l.made.items ≡ map (λ vcpu. vcpu.name) (take l.number l.vcpus);
}
