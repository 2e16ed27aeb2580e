-- Two latencies, or two shares, between which the search for the least one goes on.
use Rattle.std.specs.Prelude.{◌≡◌, ℕ, ◌<◌, ◌≤◌}
use Rattle.period_choice.specs.Choice.{HasPeriod}
use Rattle.tab_core.specs.declared.TheConstants.{WHOLE_PPM}
use Rattle.tab_core.specs.declared.reservation.Reservation.{Reservation}

-- the reservation's share has a period with the greater latency, and with none up to the lower one
pub record IsLatencyBetween (r : Reservation) (tick_ns low high : ℕ) : Type 0 where
  pub order : low < high
  pub small : high ≤ 400400
  pub lacks : (other : Reservation) → other.share_ppm ≡ r.share_ppm → HasPeriod other tick_ns
      → low < other.latency_ns
  pub has : (other : Reservation) → other.share_ppm ≡ r.share_ppm → other.latency_ns ≡ high
      → HasPeriod other tick_ns

-- the greater share has a period with the reservation's latency, and none up to the lower one has
pub record IsShareBetween (r : Reservation) (tick_ns low high : ℕ) : Type 0 where
  pub order : low < high
  pub some : 1 ≤ low
  pub small : high ≤ WHOLE_PPM
  pub lacks : (other : Reservation) → other.latency_ns ≡ r.latency_ns → HasPeriod other tick_ns
      → low < other.share_ppm
  pub has : (other : Reservation) → other.share_ppm ≡ high → other.latency_ns ≡ r.latency_ns
      → HasPeriod other tick_ns
