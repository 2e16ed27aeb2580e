-- What a share of a core costs in each period, and what a budget takes of a round.
-- Source: the periodic task model of C. L. Liu, J. W. Layland, "Scheduling algorithms for
-- multiprogramming in a hard-real-time environment", Journal of the ACM 20(1), 1973.
use Rattle.std.specs.Prelude.{ℕ, ◌*◌, ◌/◌, ◌+◌, ◌-◌, ◌≤◌}
use Rattle.tab_core.specs.declared.TheConstants.{ROUND, WHOLE_PPM}

-- so many ticks of each period are the least whole number that gives the share
pub record IsLeastCost (share_ppm period ticks : ℕ) : Type 0 where
  pub enough : share_ppm * period ≤ ticks * WHOLE_PPM
  pub least : (fewer : ℕ) → share_ppm * period ≤ fewer * WHOLE_PPM → ticks ≤ fewer

-- the cost of a share: the share of the period, rounded up to a whole tick
abbrev pub cost : ℕ → ℕ → ℕ
cost share_ppm period = (share_ppm * period + (WHOLE_PPM - 1)) / WHOLE_PPM

-- the ticks of a round that so many ticks of each period come to
abbrev pub demand : ℕ → ℕ → ℕ
demand ticks period = ticks * (ROUND / period)
