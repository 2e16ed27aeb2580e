-- What a vCPU is owed of a window of running and waiting.
-- Sources: C. L. Liu, J. W. Layland, "Scheduling algorithms for multiprogramming in a hard-real-time environment", Journal
-- of the ACM 20(1), 1973, for a cost in each period; I. Shin, I. Lee, "Periodic resource model for compositional real-time
-- guarantees", RTSS 2003, for what both ends of a time hide of a share, which is what their linear bound of supply leaves out.
use Rattle.std.specs.Prelude.{◌≡◌, ◌⊎◌, ℕ, ◌+◌, ◌*◌, ◌-◌, ◌/◌, ◌<◌, ◌≤◌, true, List, Option, Some, None, slice_get}
use Rattle.tab_core.specs.declared.TheConstants.{WHOLE_PPM}
use Rattle.tab_core.specs.declared.reservation.Reservation.{Reservation}
use Rattle.tab_core.specs.declared.vcpu.Vcpu.{Vcpu}
use Rattle.period_choice.specs.Choice.{HasPeriod, IsAdmissible}
use Rattle.reservation.specs.Cost.{cost}
use Rattle.host_judge.specs.Courses.{StateCourse}
use Rattle.host_judge.specs.Windows.{is_runnable, run_in, runnable_before}
use Rattle.host_judge.specs.declared.owed.Owed.{Owed}
use Rattle.host_judge.specs.declared.owed.Owed.TheVariants.{Plan, Share}
use Rattle.host_judge.specs.declared.owed.PlanOwed.{PlanOwed}
use Rattle.host_judge.specs.declared.owed.ShareOwed.{ShareOwed}

-- ---- how much is owed

-- how many whole periods a window holds wherever it begins: at worst one period began a ns before it, and all of that but
-- the ns is lost
abbrev pub whole_periods : ℕ → ℕ → ℕ
whole_periods window period = (window - (period - 1)) / period

-- the ns that are owed of a window of so many: by a share, that share of what the window's ends don't hide, rounded up;
-- by a plan, the cost for each whole period
abbrev pub due : Owed → ℕ → ℕ
due (Share by) window = (by.share_ppm * (window - by.hidden_ns) + (WHOLE_PPM - 1)) / WHOLE_PPM
due (Plan by) window = by.cost_ns * whole_periods window by.period_ns

-- ---- what is owed where no plan is known

-- the period is the largest that is admissible for a reservation, and twice what it doesn't give are so many ns
pub record IsHiddenBy (r : Reservation) (tick_ns period ns : ℕ) : Type 0 where
  pub admissible : IsAdmissible r tick_ns period
  pub largest : (other : ℕ) → IsAdmissible r tick_ns other → other ≤ period
  pub twice : ns ≡ 2 * (period - cost r.share_ppm period) * tick_ns

-- both ends of a window may hide so much by the largest admissible period, and nothing where none is admissible
abbrev pub IsHidden : Reservation → ℕ → ℕ → Type 0
IsHidden r tick_ns ns = ((period : ℕ) × IsHiddenBy r tick_ns period ns) ⊎ ((HasPeriod r tick_ns → ⊥) × (ns ≡ 0))

-- the share of a reservation is owed, with ticks of so many ns
pub record IsShareOwed (r : Reservation) (tick_ns : ℕ) (owed : ShareOwed) : Type 0 where
  pub share : owed.share_ppm ≡ r.share_ppm
  pub hidden : IsHidden r tick_ns owed.hidden_ns

-- what a vCPU is owed where no plan is known: nothing where it has no reservation
abbrev pub IsOwedByShare : Option Reservation → ℕ → Option Owed → Type 0
IsOwedByShare None tick_ns owed = owed ≡ None
IsOwedByShare (Some r) tick_ns owed = (by : ShareOwed) × (owed ≡ Some (Share by)) × IsShareOwed r tick_ns by

-- that for the first vCPUs
abbrev pub AreOwedByShares : List Vcpu → ℕ → List (Option Owed) → Type 0
AreOwedByShares vcpus tick_ns owed = (v : ℕ) (vcpu : Vcpu) (one : Option Owed) → slice_get vcpus v ≡ Some vcpu
    → slice_get owed v ≡ Some one → IsOwedByShare vcpu.reservation tick_ns one

-- a plan owes so many ticks of each period
pub record IsPlanOwed (cost period tick_ns : ℕ) (owed : PlanOwed) : Type 0 where
  pub costs : owed.cost_ns ≡ cost * tick_ns
  pub lasts : owed.period_ns ≡ period * tick_ns

-- ---- runs that keep a plan

-- the time in which a vCPU runs or waits is parted into periods of so many ns, of which the first begins within so many;
-- in each that is whole by a time the vCPU runs for the cost
pub record KeepsPlan (course : StateCourse) (time cost period begin : ℕ) : Type 0 where
  pub early : begin < period
  pub each : (k s e : ℕ) → e ≤ time → runnable_before course s ≡ begin + k * period
      → runnable_before course e ≡ begin + (k + 1) * period → cost ≤ run_in course s e

-- a vCPU is known from a time on, and runs or waits from then on up to another
pub record IsNeverBlocked (course : StateCourse) (first time : ℕ) : Type 0 where
  pub unknown : (t : ℕ) → t < first → course t ≡ None
  pub runnable : (t : ℕ) → first ≤ t → t < time → is_runnable (course t) ≡ true

-- the time from one on is parted into periods of so many ns, of which the first begins within so many; in each that is
-- whole by another time the vCPU runs for the cost
pub record KeepsPlanInTime (course : StateCourse) (first time cost period begin : ℕ) : Type 0 where
  pub early : begin < period
  pub each : (k : ℕ) → first + begin + (k + 1) * period ≤ time
      → cost ≤ run_in course (first + begin + k * period) (first + begin + (k + 1) * period)
