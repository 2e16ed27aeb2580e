-- A report as contracts see it.
use Rattle.std.specs.Prelude.{ℕ, List, slice_index_or}
use Rattle.run_counts.specs.declared.round_plan.RoundPlan.{RoundPlan}
use Rattle.trace_report.specs.declared.ticks.VcpuTicks.{VcpuTicks}
use Rattle.trace_report.specs.declared.ticks.CoreTicks.{CoreTicks}

-- the rounds that begin with another plan, what is reported of each vCPU and each core by number, how
-- many rounds there is room for, and how many cores' accounts were added since the report was filled
pub record ReportView : Type 0 where
  pub plans : List RoundPlan
  pub vcpus : List VcpuTicks
  pub cores : List CoreTicks
  pub room : ℕ
  pub added : ℕ

-- a report as these parts
abbrev pub report_view : List RoundPlan → List VcpuTicks → List CoreTicks → ℕ → ℕ → ReportView
report_view plans vcpus cores room added = record {
  plans = plans;
  vcpus = vcpus;
  cores = cores;
  room = room;
  added = added;
}

-- a vCPU to which nothing happened
abbrev pub no_vcpu_ticks : VcpuTicks
no_vcpu_ticks = record { offered = 0; slots = 0; shared = 0; gap = 0 }

-- a core on which nothing happened
abbrev pub no_core_ticks : CoreTicks
no_core_ticks = record { slots = 0; shared = 0; idle = 0 }

-- what is reported of a vCPU, in a list by vCPU number
abbrev pub vcpu_at : List VcpuTicks → ℕ → VcpuTicks
vcpu_at vcpus v = slice_index_or vcpus v no_vcpu_ticks

-- what is reported of a core, in a list by core number
abbrev pub core_ticks_at : List CoreTicks → ℕ → CoreTicks
core_ticks_at cores c = slice_index_or cores c no_core_ticks
