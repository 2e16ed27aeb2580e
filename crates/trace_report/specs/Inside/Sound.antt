-- What a report keeps so that no sum in it overflows.
use Rattle.std.specs.Prelude.{◌≡◌, ℕ, ◌*◌, ◌<◌, ◌≤◌, List, length}
use Rattle.tab_core.specs.declared.TheConstants.{MAX_CORES, MAX_ROUNDS, MAX_VCPUS, ROUND}
use Rattle.run_counts.specs.declared.stretch.Stretch.{Stretch}
use Rattle.trace_report.specs.declared.ticks.VcpuTicks.{VcpuTicks}
use Rattle.trace_report.specs.ReportViews.{vcpu_at}

-- no vCPU ran more ticks than so many cores have in the longest run
abbrev pub AreWithinCores : List VcpuTicks → ℕ → Type 0
AreWithinCores vcpus count = (v : ℕ) → v < length vcpus
    → ((vcpu_at vcpus v).slots ≤ count * (MAX_ROUNDS * ROUND))
    × ((vcpu_at vcpus v).shared ≤ count * (MAX_ROUNDS * ROUND))

-- a report of these vCPUs, with so many accounts added, and its two lists of stretches
pub record IsSoundReport (vcpus : List VcpuTicks) (added : ℕ) (round run : List Stretch) : Type 0 where
  pub few : length vcpus ≤ MAX_VCPUS
  pub added_few : added ≤ MAX_CORES
  pub within : AreWithinCores vcpus added
  pub round_size : length round ≡ MAX_VCPUS
  pub run_size : length run ≡ MAX_VCPUS

-- what is reported of a vCPU whose run is this stretch
abbrev pub counted : Stretch → VcpuTicks
counted s = record { offered = s.offered; slots = 0; shared = 0; gap = s.most }
