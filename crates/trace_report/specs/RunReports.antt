-- Which numbers a report has of a run: those of its rounds' counts and of its cores' accounts.
-- Source: the rules of this project.
use Rattle.std.specs.Prelude.{◌≡◌, ℕ, zero, suc, ◌+◌, ◌<◌, ◌≤◌, List, [], length, map, set, slice_index, sum_by, take, replicate}
use Rattle.tab_core.specs.declared.TheConstants.{MAX_VCPUS}
use Rattle.table_form.specs.Running.Courses.{CourseView, plan_after}
use Rattle.run_counts.specs.Reports.{IsReported}
use Rattle.run_counts.specs.RoundPlans.{round_plans_of}
use Rattle.run_counts.specs.declared.account.CoreAccount.{CoreAccount}
use Rattle.trace_report.specs.ReportViews.{ReportView, no_core_ticks, no_vcpu_ticks, vcpu_at}
use Rattle.trace_report.specs.declared.ticks.VcpuTicks.{VcpuTicks}
use Rattle.trace_report.specs.declared.ticks.CoreTicks.{CoreTicks}

-- how many vCPUs the course's host has: each plan has a place for each
abbrev pub vcpu_count : CourseView → ℕ
vcpu_count course = length (plan_after course 0).tasks

-- the report has a place for each vCPU and each core, and room for so many rounds
pub record HasRoom (course : CourseView) (rounds : ℕ) (report : ReportView) : Type 0 where
  pub rounds_fit : rounds ≤ report.room
  pub each_vcpu : length report.vcpus ≡ vcpu_count course
  pub each_core : length report.cores ≡ course.cores

-- nothing is reported yet
pub record IsEmpty (report : ReportView) : Type 0 where
  pub plans : report.plans ≡ []
  pub vcpus : report.vcpus ≡ replicate (length report.vcpus) no_vcpu_ticks
  pub cores : report.cores ≡ replicate (length report.cores) no_core_ticks
  pub added : report.added ≡ 0

-- ---- what `fill` sets

-- what is reported of a vCPU once the rounds are counted: `offered` is the number of ticks that they
-- offer to it, `gap` its greatest gap, and it ran nothing yet
pub record IsVcpuCounted (course : CourseView) (used : List ℕ) (v : ℕ) (t : VcpuTicks) : Type 0 where
  pub counted : IsReported course used v t.offered t.gap
  pub no_slots : t.slots ≡ 0
  pub no_shared : t.shared ≡ 0

-- the report of a run's rounds, which have these used counts, without any core's account
pub record IsFilled (course : CourseView) (used : List ℕ) (report : ReportView) : Type 0 where
  pub plans : report.plans ≡ round_plans_of course used
  pub each_vcpu : length report.vcpus ≡ vcpu_count course
  pub vcpus : (v : ℕ) → v < length report.vcpus → IsVcpuCounted course used v (vcpu_at report.vcpus v)
  pub cores : report.cores ≡ replicate course.cores no_core_ticks
  pub added : report.added ≡ 0

-- ---- what `add` adds

-- the sum of a list by vCPU number, over the vCPUs below n
unfoldable pub sum_below : List ℕ → ℕ → ℕ
sum_below ticks zero = 0
sum_below ticks (suc n) = sum_below ticks n + slice_index ticks n

-- what is reported of a core with this account: its sums over all vCPUs, and the ticks that it
-- idled
abbrev pub core_ticks : CoreAccount → CoreTicks
core_ticks a = record {
  slots = sum_below a.slots MAX_VCPUS;
  shared = sum_below a.shared MAX_VCPUS;
  idle = a.idle;
}

-- what is reported of a vCPU, and what one more account has of it
abbrev pub with_account : VcpuTicks → CoreAccount → ℕ → VcpuTicks
with_account t a v = record t {
  slots = t.slots + slice_index a.slots v;
  shared = t.shared + slice_index a.shared v;
}

-- the new report has the core's account more than the old one
pub record IsAccountAdded (core : ℕ) (account : CoreAccount) (old new : ReportView) : Type 0 where
  pub plans : new.plans ≡ old.plans
  pub each_vcpu : length new.vcpus ≡ length old.vcpus
  pub vcpus : (v : ℕ) → v < length old.vcpus
      → vcpu_at new.vcpus v ≡ with_account (vcpu_at old.vcpus v) account v
  pub cores : new.cores ≡ set old.cores core (core_ticks account)
  pub added : new.added ≡ old.added + 1

-- ---- what a report is

-- what is reported of a vCPU of a run: `offered` is the number of ticks that its rounds offer to the vCPU,
-- `gap` the vCPU's greatest gap, and `slots` and `shared` are the sums of what the cores' accounts have of
-- it
pub record IsVcpuTold (course : CourseView) (used : List ℕ) (accounts : List CoreAccount) (v : ℕ)
    (t : VcpuTicks) : Type 0 where
  pub counted : IsReported course used v t.offered t.gap
  pub slots : t.slots ≡ sum_by (λ (a : CoreAccount). slice_index a.slots v) accounts
  pub shared : t.shared ≡ sum_by (λ (a : CoreAccount). slice_index a.shared v) accounts

-- the report of a run's rounds and of the accounts of the cores from 0 on, the other cores' not being added
pub record IsReportSoFar (course : CourseView) (used : List ℕ) (accounts : List CoreAccount)
    (report : ReportView) : Type 0 where
  pub plans : report.plans ≡ round_plans_of course used
  pub each_vcpu : length report.vcpus ≡ vcpu_count course
  pub vcpus : (v : ℕ) → v < length report.vcpus → IsVcpuTold course used accounts v (vcpu_at report.vcpus v)
  pub each_core : length report.cores ≡ course.cores
  pub cores : take (length accounts) report.cores ≡ map core_ticks accounts

-- the report of a run whose rounds have these used counts, and whose cores these accounts, by core number
pub record IsReportOf (course : CourseView) (used : List ℕ) (accounts : List CoreAccount)
    (report : ReportView) : Type 0 where
  pub plans : report.plans ≡ round_plans_of course used
  pub each_vcpu : length report.vcpus ≡ vcpu_count course
  pub vcpus : (v : ℕ) → v < length report.vcpus → IsVcpuTold course used accounts v (vcpu_at report.vcpus v)
  pub cores : report.cores ≡ map core_ticks accounts
