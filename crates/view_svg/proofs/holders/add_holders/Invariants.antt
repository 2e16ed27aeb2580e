use Rattle.std.proofs.Common.{◌≡◌, ℕ, ◌<◌, ◌||◌, length, take}
use Rattle.tab_core.specs.VcpuSets.{has_vcpu}
use Rattle.tab_core.specs.declared.TheConstants.{MAX_VCPUS}
use Rattle.view_svg.specs.Keys.{has_bar}
use Rattle.view_svg.proofs.holders.add_holders.Given as goal

-- those so far were put
abbrev pub invariant-loop-bar : goal.invariant-loop-bar
invariant-loop-bar l = record {
  size : length l.set ≡ MAX_VCPUS;
  members : (v : ℕ) → v < MAX_VCPUS
      → has_vcpu l.set v ≡ (has_vcpu l.fn.set v || has_bar (take l.bar-index l.bars) v);
}
