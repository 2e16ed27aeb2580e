-- What a scheduler keeps that gives each vCPU its budget in each of its periods, in its unit of time, and that no
-- core is to give more than it has.
-- Source: the periodic resource of I. Shin, I. Lee, "Periodic resource model for compositional real-time guarantees",
-- RTSS 2003, whose longest wait is twice what the budget leaves of a period; and C. L. Liu, J. W. Layland, "Scheduling
-- algorithms for multiprogramming in a hard-real-time environment", Journal of the ACM 20(1), 1973.
use Rattle.std.specs.Prelude.{◌≡◌, ℕ, zero, suc, ◌+◌, ◌-◌, ◌*◌, ◌/◌, ◌<◌, ◌≤◌, ◌==◌, Bool, true, false, if◌then◌else◌, List, Some, slice_get}
use Rattle.std.specs.List.{sum_by}
use Rattle.tab_core.specs.declared.TheConstants.{MAX_CORES, WHOLE_PPM}
use Rattle.tab_core.specs.declared.reservation.Reservation.{Reservation}
use Rattle.tab_core.specs.declared.vcpu.Vcpu.{Vcpu}
use Rattle.vcpu_names.specs.Names.{name_at}
use Rattle.view_doc.specs.declared.view.Task.{Task}
use Rattle.view_schedulers.specs.declared.TheConstants.{PARTS}
use Rattle.view_schedulers.specs.declared.scheduler.Scheduler.{Scheduler}
use Rattle.view_schedulers.specs.Budgets.{bounds_wait, budget_on, parts_of, period_on, unit_of}
use Rattle.view_schedulers.specs.Reserved.{reserved_of}

-- ---- one vCPU

-- how many of the n units of time from `from` on a vCPU is given
unfoldable pub given_in : (ℕ → Bool) → ℕ → ℕ → ℕ
given_in given from zero = 0
given_in given from (suc n) = given_in given from n + (if given (from + n) then 1 else 0)

-- in each period the vCPU is given the budget at least
abbrev pub GivesBudget : (ℕ → Bool) → ℕ → ℕ → Type 0
GivesBudget given period budget = (k : ℕ) → budget ≤ given_in given (k * period) period

-- from the first to the last of these units of time the vCPU is given nothing
pub record IsSupplyWait (given : ℕ → Bool) (first last : ℕ) : Type 0 where
  pub order : first ≤ last
  pub ungiven : (x : ℕ) → first ≤ x → x ≤ last → given x ≡ false

-- whoever gives the budget in each period gives the reserved share of each
abbrev pub KeepsShare : ℕ → ℕ → Reservation → Type 0
KeepsShare period budget r = (given : ℕ → Bool) → GivesBudget given period budget
    → (k : ℕ) → r.share_ppm * period ≤ WHOLE_PPM * given_in given (k * period) period

-- whoever gives the budget in each period lets the vCPU wait no longer than its latency, with a
-- unit of so many nanoseconds
abbrev pub KeepsWait : ℕ → ℕ → ℕ → Reservation → Type 0
KeepsWait unit period budget r = (given : ℕ → Bool) → GivesBudget given period budget
    → (first last : ℕ) → IsSupplyWait given first last → unit * (suc last - first) ≤ r.latency_ns

-- ---- a plan

-- the host has admitted a vCPU of this name, whose share is kept, and, where the scheduler bounds waits, its latency
pub record IsVcpuKept (s : Scheduler) (tick : ℕ) (host : List Vcpu) (name : List ℕ) (t : Task) : Type 0 where
  pub reservation : Reservation
  pub reserved : reserved_of host name ≡ Some reservation
  pub share : KeepsShare (period_on s tick t) (budget_on s tick t) reservation
  pub wait : bounds_wait s ≡ true → KeepsWait (unit_of s) (period_on s tick t) (budget_on s tick t) reservation

-- what a task at home on the core is given of a time that is so many of its periods
abbrev pub given_on : Scheduler → ℕ → ℕ → ℕ → Task → ℕ
given_on s tick core time t =
    if t.home == core then budget_on s tick t * (time / period_on s tick t) else 0

-- the time is some number of the periods of each task at home on the core
abbrev pub IsCommonTime : Scheduler → ℕ → ℕ → List Task → ℕ → Type 0
IsCommonTime s tick core tasks time = (v : ℕ) (t : Task) → slice_get tasks v ≡ Some t → t.home ≡ core
    → time / period_on s tick t * period_on s tick t ≡ time

-- each reservation is kept, and no core is to give more than is given away of it: in any time that is some number of
-- all its vCPUs' periods, their budgets together are at most that
pub record IsKeptThere (s : Scheduler) (tick : ℕ) (host : List Vcpu) (names : List (List ℕ)) (tasks : List Task)
    : Type 0 where
  pub each : (v : ℕ) (t : Task) → slice_get tasks v ≡ Some t → IsVcpuKept s tick host (name_at names v) t
  pub room : (core time : ℕ) → core < MAX_CORES → IsCommonTime s tick core tasks time
      → PARTS * sum_by (given_on s tick core time) tasks ≤ parts_of s * time
