-- The least latency for a share, and the least share for a latency, with which there is a period.
use Rattle.std.specs.Prelude.{◌≡◌, ℕ, ◌≤◌}
use Rattle.period_choice.specs.Choice.{HasPeriod}
use Rattle.tab_core.specs.declared.reservation.Reservation.{Reservation}

-- a reservation of this share and this latency, in nanoseconds, has a period, and none of this share and a
-- shorter latency has
pub record IsLeastLatency (r : Reservation) (tick_ns latency : ℕ) : Type 0 where
  pub works : (other : Reservation) → other.share_ppm ≡ r.share_ppm → other.latency_ns ≡ latency
      → HasPeriod other tick_ns
  pub least : (other : Reservation) → other.share_ppm ≡ r.share_ppm → HasPeriod other tick_ns
      → latency ≤ other.latency_ns

-- a reservation of this share, in parts per million, and of this latency has a period, and none of a smaller
-- share has
pub record IsLeastShare (r : Reservation) (tick_ns share : ℕ) : Type 0 where
  pub works : (other : Reservation) → other.share_ppm ≡ share → other.latency_ns ≡ r.latency_ns
      → HasPeriod other tick_ns
  pub least : (other : Reservation) → other.latency_ns ≡ r.latency_ns → HasPeriod other tick_ns
      → share ≤ other.share_ppm
