use Rattle.std.proofs.Common.{◌≡◌, ℕ, ◌<◌, [], length}
use Rattle.std.specs.Prelude.{slice_get, slice_index_or}
use Rattle.tab_core.specs.VcpuSets.{has_vcpu}
use Rattle.tab_core.specs.declared.TheConstants.{MAX_VCPUS}
use Rattle.view_lanes.specs.Colours.{is_home}
use Rattle.view_lanes.proofs.colours.home_sets.Given as goal

-- the sets so far
abbrev pub invariant-loop-core : goal.invariant-loop-core
invariant-loop-core l = record {
  count : length l.sets.items ≡ l.core;
  whole : (c : ℕ) → c < l.core → length (slice_index_or l.sets.items c []) ≡ MAX_VCPUS;
  members : (c v : ℕ) → c < l.core → v < MAX_VCPUS
      → has_vcpu (slice_index_or l.sets.items c []) v ≡ is_home (slice_get l.tasks v) c;
}
