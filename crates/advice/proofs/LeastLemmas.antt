-- Reservations with a period, by their shares and latencies.
use Rattle.std.proofs.Common.{◌≡◌, ℕ, ◌+◌, ◌*◌, ◌-◌, ◌<◌, ◌≤◌, arith, inl, inr, sym, subst}
use Rattle.std.proofs.lemmas.Bool.{cases_lt}
use Rattle.std.proofs.lemmas.Nat.{mul-le}
use Rattle.tab_core.specs.declared.TheConstants.{WHOLE_PPM}
use Rattle.tab_core.specs.declared.reservation.Reservation.{Reservation}
use Rattle.tab_core.proofs.Periods.{period_at}
use Rattle.period_choice.specs.Choice.{HasPeriod}
use Rattle.reservation.specs.Cost.{cost}
use Rattle.advice.specs.Least.{IsLeastLatency, IsLeastShare}
use Rattle.advice.specs.Inside.Between.{IsLatencyBetween, IsShareBetween}

-- a greater share costs no less
cost_grows : (s t period : ℕ) → s ≤ t → cost s period ≤ cost t period
cost_grows s t period more =
    let times : s * period ≤ t * period = mul-le s period t period more (omega arith) in
    omega (arith, times)

-- a greater share or a longer latency has the same period
pub grows : (a b : Reservation) (tick : ℕ) → a.share_ppm ≤ b.share_ppm → a.latency_ns ≤ b.latency_ns
    → HasPeriod a tick → HasPeriod b tick
grows a b tick more longer has =
    let period = has.0 in
    let costs = cost_grows a.share_ppm b.share_ppm period more in
    let waits : (2 * (period - cost b.share_ppm period)) * tick
    ≤ (2 * (period - cost a.share_ppm period)) * tick =
    mul-le _ tick _ tick (omega (arith, costs)) (omega arith) in
    (period, record { listed = has.1.listed; in_time = omega (arith, waits, longer, has.1.in_time) })

-- a period of 100 ticks is one with each latency of 200 ticks
pub has_at_hundred : (r : Reservation) (tick : ℕ) → 200 * tick ≤ r.latency_ns → HasPeriod r tick
has_at_hundred r tick long =
    let waits : (2 * (100 - cost r.share_ppm 100)) * tick ≤ 200 * tick =
    mul-le _ tick _ tick (omega arith) (omega arith) in
    (100, record { listed = period_at 0 (omega arith); in_time = omega (arith, waits, long) })

-- a whole core has a period with each latency
pub has_whole : (r : Reservation) (tick : ℕ) → r.share_ppm ≡ WHOLE_PPM → HasPeriod r tick
has_whole r tick whole = (
  100,
  record {
    listed = period_at 0 (omega arith);
    in_time = subst (λ s. 2 * (100 - cost s 100) * tick ≤ r.latency_ns) (sym whole) (omega arith);
  },
)

-- what has no period is below what has one
below_having : (m n : ℕ) → ((n ≤ m) → ⊥) → m < n
below_having m n not = elim (cases_lt m n) [ inl less ↦ less | inr more ↦ absurd (not more) ]

-- the search for a latency begins between that of a reservation without a period and 200 ticks
pub latency_begins : (r : Reservation) (tick high : ℕ) → ¬ (HasPeriod r tick) → tick ≤ 2002 → high ≡ 200 * tick
    → IsLatencyBetween r tick r.latency_ns high
latency_begins r tick high none few is = record {
  order = below_having r.latency_ns high (λ more. none (has_at_hundred r tick (omega (arith, is, more))));
  small = omega (arith, is, few);
  lacks = λ other same has. below_having r.latency_ns other.latency_ns
      (λ short. none (grows other r tick (omega (arith, same)) short has));
  has = λ other same at. has_at_hundred other tick (omega (arith, is, at));
}

-- where the latency in the middle has a period, the search goes on below it
pub latency_lower : (r tried : Reservation) (tick low high : ℕ) → IsLatencyBetween r tick low high
    → tried.share_ppm ≡ r.share_ppm → low < tried.latency_ns → tried.latency_ns < high → HasPeriod tried tick
    → IsLatencyBetween r tick low tried.latency_ns
latency_lower r tried tick low high is same above below has = record {
  order = above;
  small = omega (arith, is.small, below);
  lacks = is.lacks;
  has = λ other share at. grows tried other tick (omega (arith, same, share)) (omega (arith, at)) has;
}

-- where it has none, above it
pub latency_higher : (r tried : Reservation) (tick low high : ℕ) → IsLatencyBetween r tick low high
    → tried.share_ppm ≡ r.share_ppm → low < tried.latency_ns → tried.latency_ns < high → ¬ (HasPeriod tried tick)
    → IsLatencyBetween r tick tried.latency_ns high
latency_higher r tried tick low high is same above below none = record {
  order = below;
  small = is.small;
  lacks = λ other share has. below_having tried.latency_ns other.latency_ns
      (λ short. none (grows other tried tick (omega (arith, same, share)) short has));
  has = is.has;
}

-- where nothing lies between, the search is done
pub latency_found : (r : Reservation) (tick low high : ℕ) → IsLatencyBetween r tick low high → high ≤ low + 1
    → IsLeastLatency r tick high
latency_found r tick low high is near = record {
  works = is.has;
  least = λ other share has. omega (arith, is.lacks other share has, near);
}

-- the search for the least share begins
pub share_begins : (r : Reservation) (tick : ℕ) → ¬ (HasPeriod r tick) → IsShareBetween r tick r.share_ppm WHOLE_PPM
share_begins r tick none = record {
  order = below_having r.share_ppm WHOLE_PPM
      (λ more. none (has_whole r tick (omega (arith, more, r.whole))));
  some = r.shares;
  small = omega arith;
  lacks = λ other same has. below_having r.share_ppm other.share_ppm
      (λ short. none (grows other r tick short (omega (arith, same)) has));
  has = λ other whole same. has_whole other tick whole;
}

pub share_lower : (r tried : Reservation) (tick low high : ℕ) → IsShareBetween r tick low high
    → tried.latency_ns ≡ r.latency_ns → low < tried.share_ppm → tried.share_ppm < high → HasPeriod tried tick
    → IsShareBetween r tick low tried.share_ppm
share_lower r tried tick low high is same above below has = record {
  order = above;
  some = is.some;
  small = omega (arith, is.small, below);
  lacks = is.lacks;
  has = λ other share at. grows tried other tick (omega (arith, share)) (omega (arith, same, at)) has;
}

pub share_higher : (r tried : Reservation) (tick low high : ℕ) → IsShareBetween r tick low high
    → tried.latency_ns ≡ r.latency_ns → low < tried.share_ppm → tried.share_ppm < high → ¬ (HasPeriod tried tick)
    → IsShareBetween r tick tried.share_ppm high
share_higher r tried tick low high is same above below none = record {
  order = below;
  some = omega (arith, above);
  small = is.small;
  lacks = λ other at has. below_having tried.share_ppm other.share_ppm
      (λ short. none (grows other tried tick short (omega (arith, same, at)) has));
  has = is.has;
}

pub share_found : (r : Reservation) (tick low high : ℕ) → IsShareBetween r tick low high → high ≤ low + 1
    → IsLeastShare r tick high
share_found r tick low high is near = record {
  works = is.has;
  least = λ other at has. omega (arith, is.lacks other at has, near);
}
