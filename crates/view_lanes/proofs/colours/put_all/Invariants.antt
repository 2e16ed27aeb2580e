use Rattle.std.proofs.Common.{◌≡◌, ℕ, ◌<◌, ◌||◌, ◌&&◌, length}
use Rattle.std.specs.Prelude.{nat_lt}
use Rattle.tab_core.specs.VcpuSets.{has_vcpu}
use Rattle.tab_core.specs.declared.TheConstants.{MAX_VCPUS}
use Rattle.view_lanes.proofs.colours.put_all.Given as goal

-- those so far were put
abbrev pub invariant-loop-u : goal.invariant-loop-u
invariant-loop-u l = record {
  size : length l.set ≡ MAX_VCPUS;
  members : (w : ℕ) → w < MAX_VCPUS
      → has_vcpu l.set w ≡ (has_vcpu l.fn.set w || (nat_lt w l.u && has_vcpu l.other w));
}
