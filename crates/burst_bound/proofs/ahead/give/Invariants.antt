use Rattle.std.proofs.Common.{◌≡◌, ℕ, ◌-◌, ◌<◌, ◌≤◌, length}
use Rattle.std.specs.Prelude.{if◌then◌else◌, slice_index}
use Rattle.tab_core.specs.VcpuSets.{has_vcpu}
use Rattle.tab_core.specs.declared.TheConstants.{MAX_VCPUS}
use Rattle.burst_bound.proofs.ahead.give.Given as goal

-- the members below this number have the count
abbrev pub invariant-loop-vcpu : goal.invariant-loop-vcpu
invariant-loop-vcpu l = record {
  size : length l.ready ≡ MAX_VCPUS;
  within : l.from ≤ MAX_VCPUS;
  given : (v : ℕ) → v < l.from
      → slice_index l.ready v ≡ (if has_vcpu l.fn.set v then l.fn.count else slice_index l.fn.ready v);
  rest : (v : ℕ) → l.from ≤ v → slice_index l.ready v ≡ slice_index l.fn.ready v;
}

abbrev pub decreases-loop-vcpu : goal.decreases-loop-vcpu
decreases-loop-vcpu l = MAX_VCPUS - l.from
