use Rattle.std.proofs.Common.{◌≡◌, ℕ, ◌<◌, ◌||◌, ◌&&◌, length}
use Rattle.std.specs.Prelude.{nat_lt, slice_get}
use Rattle.tab_core.specs.VcpuSets.{has_vcpu}
use Rattle.tab_core.specs.declared.TheConstants.{MAX_VCPUS}
use Rattle.view_lanes.specs.Colours.{is_home}
use Rattle.view_lanes.proofs.colours.put_homes.Given as goal

-- those so far were put
abbrev pub invariant-loop-v : goal.invariant-loop-v
invariant-loop-v l = record {
  size : length l.set ≡ MAX_VCPUS;
  members : (w : ℕ) → w < MAX_VCPUS
      → has_vcpu l.set w ≡ (has_vcpu l.fn.set w || (nat_lt w l.v && is_home (slice_get l.tasks w) l.core));
}
