-- What planning makes of a generated vCPU, whose host has the default tick.
use Rattle.std.specs.Prelude.{◌≡◌, ℕ, ◌*◌, ◌/◌}
use Rattle.tab_core.specs.declared.TheConstants.{TICK_NS}
use Rattle.tab_core.specs.declared.periodic.Periodic.{Periodic}
use Rattle.tab_core.specs.declared.reservation.Reservation.{Reservation}
use Rattle.reservation.specs.Cost.{cost, demand}
use Rattle.period_choice.specs.Choice.{IsAdmissible, IsChosen, demand_at}

-- the period that its latency is made of is admissible and takes of a round what the percents come to,
-- and so does the chosen one
pub record HasWholePeriod (percent period : ℕ) (r : Reservation) : Type 0 where
  pub admissible : IsAdmissible r TICK_NS period
  pub cost_is : cost r.share_ppm period ≡ period / 100 * percent
  pub takes : demand_at r period ≡ 1026 * percent
  pub chosen : (task : Periodic) → IsChosen r TICK_NS task → demand task.cost task.period ≡ 1026 * percent
