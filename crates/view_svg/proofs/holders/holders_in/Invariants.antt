use Rattle.std.proofs.Common.{◌≡◌, ℕ, ◌<◌, length, take}
use Rattle.tab_core.specs.VcpuSets.{has_vcpu}
use Rattle.tab_core.specs.declared.TheConstants.{MAX_VCPUS}
use Rattle.view_svg.specs.Keys.{has_lane}
use Rattle.view_svg.proofs.holders.holders_in.Given as goal

-- those of the lanes so far were put
abbrev pub invariant-loop-lane : goal.invariant-loop-lane
invariant-loop-lane l = record {
  size : length l.set ≡ MAX_VCPUS;
  members : (v : ℕ) → v < MAX_VCPUS → has_vcpu l.set v ≡ has_lane (take l.lane-index l.lanes) v;
}
