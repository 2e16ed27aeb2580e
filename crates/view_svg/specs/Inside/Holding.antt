-- Who has bars on a lane.
use Rattle.std.specs.Prelude.{◌≡◌, ℕ, ◌<◌, ◌==◌, Bool, List}
use Rattle.std.specs.List.{list_any}
use Rattle.tab_core.specs.VcpuSets.{has_vcpu}
use Rattle.tab_core.specs.declared.TheConstants.{MAX_VCPUS}
use Rattle.view_lanes.specs.declared.frame.Bar.{Bar}

-- the set has the vCPUs that have a bar
abbrev pub AreHolders : List Bool → List Bar → Type 0
AreHolders set bars = (v : ℕ) → v < MAX_VCPUS → has_vcpu set v ≡ list_any (λ bar. bar.key == v) bars
