-- The period that a reservation gets.
-- Source: the latency rule follows I. Shin, I. Lee, "Periodic resource model for compositional
-- real-time guarantees", RTSS 2003. Where each period gives at least its cost, no time without an
-- offer is longer than twice what a period doesn't give. The length of a tick is the host's.
use Rattle.std.specs.Prelude.{◌≡◌, ℕ, ◌*◌, ◌-◌, ◌≤◌}
use Rattle.tab_core.specs.declared.periodic.Periodic.{Periodic}
use Rattle.tab_core.specs.declared.reservation.Reservation.{Reservation}
use Rattle.tab_core.specs.Period.{IsPeriod}
use Rattle.reservation.specs.Cost.{cost, demand}

-- twice the ticks that a period of this length doesn't give, in ticks of so many nanoseconds, are
-- within the latency
abbrev pub MeetsLatency : Reservation → ℕ → ℕ → Type 0
MeetsLatency r tick_ns period = 2 * (period - cost r.share_ppm period) * tick_ns ≤ r.latency_ns

-- one of the table's periods, which meets the latency
pub record IsAdmissible (r : Reservation) (tick_ns period : ℕ) : Type 0 where
  pub listed : IsPeriod period
  pub in_time : MeetsLatency r tick_ns period

-- some period is admissible
abbrev pub HasPeriod : Reservation → ℕ → Type 0
HasPeriod r tick_ns = (period : ℕ) × IsAdmissible r tick_ns period

-- what the reservation takes of a round with this period
abbrev pub demand_at : Reservation → ℕ → ℕ
demand_at r period = demand (cost r.share_ppm period) period

-- the admissible period of least demand, and of those the largest, with its cost
pub record IsChosen (r : Reservation) (tick_ns : ℕ) (task : Periodic) : Type 0 where
  pub cost_is : task.cost ≡ cost r.share_ppm task.period
  pub admissible : IsAdmissible r tick_ns task.period
  pub least : (other : ℕ) → IsAdmissible r tick_ns other → demand_at r task.period ≤ demand_at r other
  pub largest : (other : ℕ) → IsAdmissible r tick_ns other → demand_at r other ≡ demand_at r task.period
      → other ≤ task.period
