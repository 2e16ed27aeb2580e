-- What planning makes of a generated vCPU: its period of whole ticks is admissible, and the chosen
-- one takes as much of a round.
use Rattle.std.proofs.Common.{◌≡◌, ℕ, zero, suc, ◌*◌, ◌/◌, ◌<◌, ◌≤◌, ◌%◌, IsTrue, refl, ap, arith}
use Rattle.std.proofs.Math.Nat.{mul-le-mul_left}
use Rattle.std.specs.Prelude.{slice_index}
use Rattle.tab_core.specs.Period.{is_period}
use Rattle.tab_core.specs.declared.TheConstants.{TICK_NS}
use Rattle.tab_core.specs.declared.reservation.Reservation.{Reservation}
use Rattle.tab_core.proofs.Periods.{period_facts}
use Rattle.reservation.specs.Cost.{cost, demand}
use Rattle.period_choice.specs.Choice.{IsAdmissible, MeetsLatency, demand_at}
use Rattle.host_gen.specs.Generated.{IsGeneratedReservation, period_of, whole_periods}
use Rattle.host_gen.specs.Planning.{HasWholePeriod}

-- what holds of each of the six periods holds of the one at any place
each_period : (P : ℕ → Type 0) → P 100 → P 300 → P 900 → P 2700 → P 5700 → P 11400
    → (k : ℕ) → k < 6 → P (slice_index whole_periods k)
each_period P a b c d e f zero low = a
each_period P a b c d e f (suc zero) low = b
each_period P a b c d e f (suc (suc zero)) low = c
each_period P a b c d e f (suc (suc (suc zero))) low = d
each_period P a b c d e f (suc (suc (suc (suc zero)))) low = e
each_period P a b c d e f (suc (suc (suc (suc (suc zero))))) low = f
each_period P a b c d e f (suc (suc (suc (suc (suc (suc k)))))) low = absurd (omega arith)

-- no period takes less of a round than the share comes to
demand_covers : (r : Reservation) (percent period : ℕ) → IsTrue (is_period period)
    → r.share_ppm ≡ 10000 * percent → 1026 * percent ≤ demand_at r period
demand_covers r percent period listed share =
    let facts = period_facts period listed in
    let enough : r.share_ppm * period ≤ cost r.share_ppm period * 1000000 = omega arith in
    let times = mul-le-mul_left (102600 / period) enough in
    let round : r.share_ppm * (period * (102600 / period)) ≡ r.share_ppm * 102600 =
    ap (λ n. r.share_ppm * n) facts.whole in
    omega arith

-- what is left to show of a period: it is listed, and costs a whole number of ticks
record IsWhole (percent period : ℕ) : Type 0 where
  pub listed : IsTrue (is_period period)
  pub cost_is : cost (10000 * percent) period ≡ period / 100 * percent
  pub takes : demand (period / 100 * percent) period ≡ 1026 * percent

-- each of the six is such a period
whole_each : (percent : ℕ) (k : ℕ) → k < 6 → IsWhole percent (slice_index whole_periods k)
unfolding is_period
whole_each percent = each_period (IsWhole percent)
    (record { listed = refl; cost_is = omega arith; takes = omega arith })
    (record { listed = refl; cost_is = omega arith; takes = omega arith })
    (record { listed = refl; cost_is = omega arith; takes = omega arith })
    (record { listed = refl; cost_is = omega arith; takes = omega arith })
    (record { listed = refl; cost_is = omega arith; takes = omega arith })
    (record { listed = refl; cost_is = omega arith; takes = omega arith })

-- each of the six periods keeps the latency that is made of it
whole_period : (percent period : ℕ) (r : Reservation) → IsWhole percent period
    → IsGeneratedReservation percent period r → HasWholePeriod percent period r
whole_period percent period r whole is =
    let cost_is : cost r.share_ppm period ≡ period / 100 * percent = rw is.share whole.cost_is in
    let takes : demand_at r period ≡ 1026 * percent = rw cost_is whole.takes in
    let in_time : MeetsLatency r TICK_NS period = rw (cost_is, is.latency) (omega arith) in
    let admissible : IsAdmissible r TICK_NS period = record { listed = whole.listed; in_time = in_time } in record {
      admissible = admissible;
      cost_is = cost_is;
      takes = takes;
      chosen = λ task chosen.
          let most = chosen.least period admissible in
          let least = demand_covers r percent task.period chosen.admissible.listed is.share in
          let same : demand task.cost task.period ≡ demand_at r task.period =
          ap (λ ticks. demand ticks task.period) chosen.cost_is in
          omega arith;
    }

-- a generated vCPU's period is one of the six
pub whole_reservation : (percent second : ℕ) (r : Reservation) → IsGeneratedReservation percent (period_of second) r
    → HasWholePeriod percent (period_of second) r
whole_reservation percent second r is =
    whole_period percent (period_of second) r (whole_each percent (second % 6) (omega arith)) is
