-- What a plan keeps of its host's reservations where its rows repeat round after round without end,
-- in ticks from 0: each vCPU gets its share of each of its periods, and no wait exceeds its latency,
-- with the host's tick.
-- Source: the two promises of a reservation in M. Vanga, A. Gujarati, B. B. Brandenburg, "Tableau:
-- a high-throughput and predictable VM scheduler for high-density workloads", EuroSys 2018.
use Rattle.std.specs.Prelude.{◌≡◌, ℕ, zero, suc, ◌+◌, ◌-◌, ◌*◌, ◌%◌, ◌≤◌, Bool, false, Some, slice_get, if◌then◌else◌}
use Rattle.tab_core.specs.declared.TheConstants.{ROUND, WHOLE_PPM}
use Rattle.tab_core.specs.declared.host.Host.{Host}
use Rattle.tab_core.specs.declared.periodic.Periodic.{Periodic}
use Rattle.tab_core.specs.declared.reservation.Reservation.{Reservation}
use Rattle.tab_core.specs.declared.vcpu.Vcpu.{Vcpu}
use Rattle.table_form.specs.Promises.Offered.{some_row_has}
use Rattle.table_form.specs.Tables.Plans.{PlanView}

-- the plan offers the tick to the vCPU: some row has it at the tick's place of the round
abbrev pub is_offered_in : PlanView → ℕ → ℕ → Bool
is_offered_in plan v x = some_row_has plan.rows v (x % ROUND)

-- how many of the n ticks from `from` on the plan offers to the vCPU
unfoldable pub offers_in : PlanView → ℕ → ℕ → ℕ → ℕ
offers_in plan v from zero = 0
offers_in plan v from (suc n) =
    offers_in plan v from n + (if is_offered_in plan v (from + n) then 1 else 0)

-- the vCPU has a task in the plan, and gets at least its share of each of that task's periods
pub record GetsItsShare (plan : PlanView) (v : ℕ) (reservation : Reservation) : Type 0 where
  pub task : Periodic
  pub at : slice_get plan.tasks v ≡ Some (Some task)
  pub share : (k : ℕ) → reservation.share_ppm * task.period
      ≤ WHOLE_PPM * offers_in plan v (k * task.period) task.period

-- from the first to the last of these ticks the plan offers the vCPU nothing
pub record IsWait (plan : PlanView) (v first last : ℕ) : Type 0 where
  pub order : first ≤ last
  pub unoffered : (x : ℕ) → first ≤ x → x ≤ last → is_offered_in plan v x ≡ false

-- in ticks of so many nanoseconds, no wait is longer than the latency
abbrev pub WaitsWithin : PlanView → ℕ → ℕ → ℕ → Type 0
WaitsWithin plan tick_ns v latency_ns = (first last : ℕ) → IsWait plan v first last
    → tick_ns * (suc last - first) ≤ latency_ns

-- the host's vCPU has this reservation
pub record IsReserved (host : Host) (v : ℕ) (reservation : Reservation) : Type 0 where
  pub vcpu : Vcpu
  pub at : slice_get host.vcpus v ≡ Some vcpu
  pub reserved : vcpu.reservation ≡ Some reservation

-- each vCPU of the host that has a reservation gets its share and waits within its latency
pub record KeepsReservations (host : Host) (plan : PlanView) : Type 0 where
  pub shares : (v : ℕ) (reservation : Reservation) → IsReserved host v reservation
      → GetsItsShare plan v reservation
  pub latencies : (v : ℕ) (reservation : Reservation) → IsReserved host v reservation
      → WaitsWithin plan host.tick_ns v reservation.latency_ns
