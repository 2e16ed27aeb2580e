-- The best budget of the last entries of the table, entry by entry from the last one on.
use Rattle.std.proofs.Common.{◌≡◌, ℕ, ◌+◌, ◌*◌, ◌/◌, ◌-◌, ◌<◌, ◌≤◌, Option, Some, None, MatchOption, IsTrue, arith, get_or, subst, sym, ap, ◌∙◌, IfSome, IfNone, IsSomeAnd, inl, inr}
use Rattle.std.proofs.lemmas.Bool.{cases_eq, cases_lt}
use Rattle.std.proofs.lemmas.Nat.{mul-le}
use Rattle.tab_core.specs.declared.TheConstants.{PERIODS, ROUND}
use Rattle.tab_core.specs.declared.periodic.Periodic.{Periodic}
use Rattle.tab_core.specs.declared.reservation.Reservation.{Reservation}
use Rattle.tab_core.specs.Period.{is_period}
use Rattle.tab_core.proofs.Periods.{period_facts, periods_rise, place_of_period, period_at}
use Rattle.period_choice.specs.Choice.{HasPeriod, MeetsLatency, IsAdmissible, IsChosen, demand_at}
use Rattle.reservation.specs.Cost.{cost, demand}

-- the task is the best of the entries of the table from place n on, with ticks of so many nanoseconds
pub record IsBestFrom (r : Reservation) (tick : ℕ) (n : ℕ) (task : Periodic) : Type 0 where
  pub there : n < 65
  pub above : get_or PERIODS n 0 ≤ task.period
  pub cost_is : task.cost ≡ cost r.share_ppm task.period
  pub admissible : IsAdmissible r tick task.period
  pub least : (k : ℕ) → n ≤ k → k < 65 → MeetsLatency r tick (get_or PERIODS k 0)
      → demand_at r task.period ≤ demand_at r (get_or PERIODS k 0)
  pub largest : (k : ℕ) → n ≤ k → k < 65 → MeetsLatency r tick (get_or PERIODS k 0)
      → demand_at r (get_or PERIODS k 0) ≡ demand_at r task.period
      → get_or PERIODS k 0 ≤ task.period

-- none of the entries from place n on keeps the latency
abbrev pub NoneFrom : Reservation → ℕ → ℕ → Type 0
NoneFrom r tick n = (k : ℕ) → n ≤ k → k < 65 → MeetsLatency r tick (get_or PERIODS k 0) → ⊥

-- what the loop keeps: the best of the entries from place n on, or that there is none
abbrev pub IsBestSoFar : Reservation → ℕ → ℕ → Option Periodic → Type 0
IsBestSoFar r tick n best = MatchOption best (NoneFrom r tick n) (λ task. IsBestFrom r tick n task)

-- what holds of an entry and of those after it
from_one : (P : ℕ → Type 0) (n : ℕ) → P n → ((k : ℕ) → n + 1 ≤ k → k < 65 → P k) → (k : ℕ) → n ≤ k → k < 65
    → P k
from_one P n here later k le lt = elim (cases_eq k n) [
  | inl same ↦ subst P (sym same) here
  | inr other ↦ later k (omega arith) lt
]

-- no period takes less of a round than the share of the round
least_of_round : (share period : ℕ) → period * (102600 / period) ≡ 102600
    → cost share 102600 ≤ demand (cost share period) period
least_of_round share period whole =
    let times = 102600 / period in
    let ticks = cost share period in
    let enough : share * period ≤ ticks * 1000000 = omega arith in
    let all : (share * period) * times ≤ (ticks * 1000000) * times =
    mul-le (share * period) times (ticks * 1000000) times enough (omega arith) in
    let left : (share * period) * times ≡ share * 102600 =
    grind (arith, ap (λ (n : ℕ). share * n) whole) in
    let right : (ticks * 1000000) * times ≡ (ticks * times) * 1000000 = grind arith in
    omega (arith, all, left, right)

-- the best so far takes no more than that, so it is the choice
pub chosen_early : (r : Reservation) (tick n : ℕ) (task : Periodic) → IsBestFrom r tick n task
    → demand task.cost task.period ≡ cost r.share_ppm ROUND → IsChosen r tick task
chosen_early r tick n task b just =
    let same : demand_at r task.period ≡ cost r.share_ppm ROUND =
    sym (ap (λ c. demand c task.period) b.cost_is) ∙ just in
    record {
      cost_is = b.cost_is;
      admissible = b.admissible;
      least = λ other a. (let low = least_of_round r.share_ppm other (period_facts other a.listed).whole in
          omega (arith, low, same));
      largest = λ other a e. (let at = place_of_period other a.listed in
          let P : ℕ → Type 0 = λ t. MeetsLatency r tick t → demand_at r t ≡ demand_at r task.period
          → t ≤ task.period in
          elim (cases_lt at.0 n) [
            | inl before ↦ (let rise = periods_rise at.0 n (omega arith) b.there in
                omega (arith, rise, at.2, b.above))
            | inr le ↦ subst P at.2 (b.largest at.0 le at.1) a.in_time e
          ]);
    }

-- the whole table has been gone through
chosen_from_best : (r : Reservation) (tick : ℕ) (task : Periodic) → IsBestFrom r tick 0 task → IsChosen r tick task
chosen_from_best r tick task b = record {
  cost_is = b.cost_is;
  admissible = b.admissible;
  least = λ other a. (let at = place_of_period other a.listed in
      let P : ℕ → Type 0 = λ t. MeetsLatency r tick t → demand_at r task.period ≤ demand_at r t in
      subst P at.2 (b.least at.0 (omega arith) at.1) a.in_time);
  largest = λ other a e. (let at = place_of_period other a.listed in
      let P : ℕ → Type 0 = λ t. MeetsLatency r tick t → demand_at r t ≡ demand_at r task.period
      → t ≤ task.period in
      subst P at.2 (b.largest at.0 (omega arith) at.1) a.in_time e);
}

-- where no entry keeps the latency, no period does, since each has a place in the table
none_from_all : (r : Reservation) (tick : ℕ) → NoneFrom r tick 0 → ¬ (HasPeriod r tick)
none_from_all r tick none has =
    let a = has.1 in
    let at = place_of_period has.0 a.listed in
    let P : ℕ → Type 0 = λ t. MeetsLatency r tick t → ⊥ in
    subst P at.2 (none at.0 (omega arith) at.1) a.in_time

-- the next entry does not keep the latency
best_skips : (r : Reservation) (tick : ℕ) (n : ℕ) (best : Option Periodic) → n < 65 → IsBestSoFar r tick (n + 1) best
    → (MeetsLatency r tick (get_or PERIODS n 0) → ⊥) → IsBestSoFar r tick n best
best_skips r tick n None lt h late = from_one (λ k. MeetsLatency r tick (get_or PERIODS k 0) → ⊥) n late h
best_skips r tick n (Some b) lt h late = record {
  there = lt;
  above = (let rise = periods_rise n (n + 1) (omega arith) h.there in omega (arith, rise, h.above));
  cost_is = h.cost_is;
  admissible = h.admissible;
  least = from_one (λ k. MeetsLatency r tick (get_or PERIODS k 0)
      → demand_at r b.period ≤ demand_at r (get_or PERIODS k 0)) n (λ w. absurd (late w)) h.least;
  largest = from_one (λ k. MeetsLatency r tick (get_or PERIODS k 0)
      → demand_at r (get_or PERIODS k 0) ≡ demand_at r b.period → get_or PERIODS k 0 ≤ b.period) n
      (λ w e. absurd (late w)) h.largest;
}

-- the next entry takes no less of a round than the best so far
best_stays : (r : Reservation) (tick : ℕ) (n : ℕ) (b : Periodic) → n < 65 → IsBestFrom r tick (n + 1) b
    → demand_at r b.period ≤ demand_at r (get_or PERIODS n 0) → IsBestFrom r tick n b
best_stays r tick n b lt h more =
    let rise = periods_rise n (n + 1) (omega arith) h.there in
    let above : get_or PERIODS n 0 ≤ b.period = omega (arith, rise, h.above) in
    record {
      there = lt;
      above = above;
      cost_is = h.cost_is;
      admissible = h.admissible;
      least = from_one (λ k. MeetsLatency r tick (get_or PERIODS k 0)
          → demand_at r b.period ≤ demand_at r (get_or PERIODS k 0)) n (λ w. more) h.least;
      largest = from_one (λ k. MeetsLatency r tick (get_or PERIODS k 0)
          → demand_at r (get_or PERIODS k 0) ≡ demand_at r b.period → get_or PERIODS k 0 ≤ b.period) n
          (λ w e. above) h.largest;
    }

-- the entry at n takes less than any after it
less_than_later : (r : Reservation) (tick : ℕ) (n : ℕ) (best : Option Periodic) (period : ℕ)
    → IsBestSoFar r tick (n + 1) best → IfSome best (λ b. demand_at r period < demand_at r b.period)
    → (k : ℕ) → n + 1 ≤ k → k < 65 → MeetsLatency r tick (get_or PERIODS k 0)
    → demand_at r period < demand_at r (get_or PERIODS k 0)
less_than_later r tick n None period h less k le lt w = absurd (h k le lt w)
less_than_later r tick n (Some b) period h less k le lt w = let of_best = h.least k le lt w in omega (arith, of_best, less)

-- the next entry is taken: it keeps the latency and takes less of a round
best_takes : (r : Reservation) (tick : ℕ) (n : ℕ) (best : Option Periodic) (task : Periodic) → n < 65
    → IsBestSoFar r tick (n + 1) best → task.period ≡ get_or PERIODS n 0
    → task.cost ≡ cost r.share_ppm task.period → MeetsLatency r tick task.period
    → IfSome best (λ b. demand_at r task.period < demand_at r b.period) → IsBestFrom r tick n task
best_takes r tick n best task lt h at c w less = record {
  there = lt;
  above = omega (arith, at);
  cost_is = c;
  admissible = record { listed = subst (λ t. IsTrue (is_period t)) (sym at) (period_at n lt); in_time = w };
  least = from_one (λ k. MeetsLatency r tick (get_or PERIODS k 0)
      → demand_at r task.period ≤ demand_at r (get_or PERIODS k 0)) n (λ w'. rw at (omega arith))
      (λ k le k-lt w'. (let under = less_than_later r tick n best task.period h less k le k-lt w' in omega (arith, under)));
  largest = from_one (λ k. MeetsLatency r tick (get_or PERIODS k 0)
      → demand_at r (get_or PERIODS k 0) ≡ demand_at r task.period → get_or PERIODS k 0 ≤ task.period) n
      (λ w' e. omega (arith, at))
      (λ k le k-lt w' e. absurd (let under = less_than_later r tick n best task.period h less k le k-lt w' in
      omega (arith, under, e)));
}

-- the task that one more entry brings
taken_next : (r : Reservation) (tick : ℕ) (n : ℕ) (best next : Option Periodic) → n < 65
    → IsBestSoFar r tick (n + 1) best → MeetsLatency r tick (get_or PERIODS n 0)
    → IfSome best (λ b. demand_at r (get_or PERIODS n 0) < demand_at r b.period)
    → IsSomeAnd next (λ task. (task.period ≡ get_or PERIODS n 0)
    × (task.cost ≡ cost r.share_ppm (get_or PERIODS n 0)))
    → IsBestSoFar r tick n next
taken_next r tick n best None lt h w less is = absurd is
taken_next r tick n best (Some task) lt h w less is =
    best_takes r tick n best task lt h is.0 (rw is.0 is.1) (subst (λ t. MeetsLatency r tick t) (sym is.0) w)
    (subst (λ t. IfSome best (λ b. demand_at r t < demand_at r b.period)) (sym is.0) less)

-- one more entry that keeps the latency
in_time_more : (r : Reservation) (tick : ℕ) (n : ℕ) (best next : Option Periodic) → n < 65
    → IsBestSoFar r tick (n + 1) best → MeetsLatency r tick (get_or PERIODS n 0)
    → (IsSomeAnd best (λ b. demand b.cost b.period ≤ demand_at r (get_or PERIODS n 0)) → next ≡ best)
    → (IfSome best (λ b. demand_at r (get_or PERIODS n 0) < demand b.cost b.period)
    → IsSomeAnd next (λ task. (task.period ≡ get_or PERIODS n 0)
    × (task.cost ≡ cost r.share_ppm (get_or PERIODS n 0))))
    → IsBestSoFar r tick n next
in_time_more r tick n None next lt h w kept taken = taken_next r tick n None next lt h w tt (taken tt)
in_time_more r tick n (Some b) next lt h w kept taken =
    let same : demand b.cost b.period ≡ demand_at r b.period = ap (λ c. demand c b.period) h.cost_is in
    elim (cases_lt (demand_at r (get_or PERIODS n 0)) (demand b.cost b.period)) [
      | inl less ↦ taken_next r tick n (Some b) next lt h w (rw same at less) (taken less)
      | inr no_less ↦ rw (kept no_less) (best_stays r tick n b lt h (rw same at no_less))
    ]

-- one more entry, whatever it brings
pub best_more : (r : Reservation) (tick : ℕ) (n : ℕ) (best next : Option Periodic) → n < 65
    → IsBestSoFar r tick (n + 1) best
    → ((MeetsLatency r tick (get_or PERIODS n 0) → ⊥) → next ≡ best)
    → (IsSomeAnd best (λ b. demand b.cost b.period ≤ demand_at r (get_or PERIODS n 0)) → next ≡ best)
    → (MeetsLatency r tick (get_or PERIODS n 0)
    → IfSome best (λ b. demand_at r (get_or PERIODS n 0) < demand b.cost b.period)
    → IsSomeAnd next (λ task. (task.period ≡ get_or PERIODS n 0)
    × (task.cost ≡ cost r.share_ppm (get_or PERIODS n 0))))
    → IsBestSoFar r tick n next
best_more r tick n best next lt h late kept taken =
    elim (cases_lt r.latency_ns (2 * (get_or PERIODS n 0 - cost r.share_ppm (get_or PERIODS n 0))
    * tick)) [
      | inl over ↦ rw (late (λ w. omega arith)) (best_skips r tick n best lt h (λ w. omega arith))
      | inr w ↦ in_time_more r tick n best next lt h w kept (taken w)
    ]

-- the whole table has been gone through: what was kept is the choice
pub chosen_at_end : (r : Reservation) (tick : ℕ) (n : ℕ) (best : Option Periodic) → n ≡ 0
    → IsBestSoFar r tick n best → IfSome best (λ task. IsChosen r tick task)
chosen_at_end r tick n None end h = tt
chosen_at_end r tick n (Some task) end h = chosen_from_best r tick task
    (subst (λ (m : ℕ). IsBestFrom r tick m task) end h)

-- where nothing was kept there is no choice
pub none_at_end : (r : Reservation) (tick : ℕ) (n : ℕ) (best : Option Periodic) → n ≡ 0 → IsBestSoFar r tick n best
    → IfNone best (¬ (HasPeriod r tick))
none_at_end r tick n None end h = none_from_all r tick (subst (λ (m : ℕ). NoneFrom r tick m) end h)
none_at_end r tick n (Some task) end h = tt

-- what takes no more than the share of the round is the choice
pub chosen_if_just : (r : Reservation) (tick n ticks : ℕ) (best : Option Periodic) → IsBestSoFar r tick n best
    → IsSomeAnd best (λ b. demand b.cost b.period ≡ ticks) → ticks ≡ cost r.share_ppm ROUND
    → IfSome best (λ task. IsChosen r tick task)
chosen_if_just r tick n ticks None h just is = tt
chosen_if_just r tick n ticks (Some task) h just is = chosen_early r tick n task h (just ∙ is)
