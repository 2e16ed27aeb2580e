-- Sets that say which vCPUs are on each core, and which of them meet.
use Rattle.std.specs.Prelude.{◌≡◌, ℕ, ◌<◌, ◌||◌, Bool, List, [], length, slice_index_or}
use Rattle.tab_core.specs.VcpuSets.{has_vcpu}
use Rattle.tab_core.specs.declared.TheConstants.{MAX_CORES, MAX_VCPUS}
use Rattle.view_lanes.specs.Colours.{meets}

-- the sets by core have the vCPUs that are there
pub record AreOn (sets : List (List Bool)) (on : ℕ → ℕ → Bool) : Type 0 where
  pub count : length sets ≡ MAX_CORES
  pub members : (core v : ℕ) → core < MAX_CORES → v < MAX_VCPUS
      → has_vcpu (slice_index_or sets core []) v ≡ on core v

-- each set says of each vCPU whether it is there
abbrev pub AreWhole : List (List Bool) → Type 0
AreWhole sets = (core : ℕ) → core < MAX_CORES → length (slice_index_or sets core []) ≡ MAX_VCPUS

-- the sets by core have besides the vCPUs that pass the test for that core
pub record HaveAlso (also : ℕ → ℕ → Bool) (old new : List (List Bool)) : Type 0 where
  pub count : length new ≡ MAX_CORES
  pub whole : AreWhole new
  pub members : (core v : ℕ) → core < MAX_CORES → v < MAX_VCPUS
      → has_vcpu (slice_index_or new core []) v ≡ (has_vcpu (slice_index_or old core []) v || also core v)

-- the set has the vCPUs that this one meets
abbrev pub AreMet : List Bool → (ℕ → ℕ → Bool) → ℕ → Type 0
AreMet met on v = (u : ℕ) → u < MAX_VCPUS → has_vcpu met u ≡ meets on u v
