use Rattle.std.proofs.Common.{◌≡◌, ℕ, ◌<◌, Bool, length}
use Rattle.tab_core.specs.VcpuSets.{has_vcpu}
use Rattle.tab_core.specs.declared.TheConstants.{MAX_VCPUS}
use Rattle.view_lanes.specs.Colours.{meets_below}
use Rattle.view_lanes.specs.Inside.Standing.{AreOn}
use Rattle.view_lanes.proofs.colours.met_by.Given as goal

-- those that it meets on the cores so far were put
abbrev pub invariant-loop-core : goal.invariant-loop-core
invariant-loop-core l = record {
  size : length l.met ≡ MAX_VCPUS;
  members : (on : ℕ → ℕ → Bool) → AreOn l.sets on → (u : ℕ) → u < MAX_VCPUS
      → has_vcpu l.met u ≡ meets_below on u l.v l.core;
}
