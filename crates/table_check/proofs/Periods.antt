-- The period of a task that holds a tick, and the ticks that a run has in common with periods.
use Rattle.std.proofs.Common.{◌≡◌, ◌≢◌, ℕ, ◌+◌, ◌-◌, ◌*◌, ◌/◌, ◌<◌, ◌≤◌, inl, inr, arith}
use Rattle.std.proofs.Math.Nat.{div-lt_iff_lt-mul, div-mul-le_self, lt-div-mul-add, mul-le-mul, mul-le-mul_right}
use Rattle.std.proofs.lemmas.Bool.{cases_lt}
use Rattle.tab_core.specs.declared.TheConstants.{ROUND}
use Rattle.tab_core.specs.declared.periodic.Periodic.{Periodic}
use Rattle.tab_core.proofs.Periods.{period_facts}
use Rattle.table_check.specs.Inside.Counters.{ticks_shared}
use Rattle.table_check.specs.declared.counters.TheConstants.{MAX_PERIODS}

-- a round has at most so many periods of a task
pub few_periods : (task : Periodic) → ROUND / task.period ≤ MAX_PERIODS
few_periods task = elim (cases_lt MAX_PERIODS (ROUND / task.period)) [
  | inr le ↦ le
  | inl many ↦ absurd (
      let facts = period_facts task.period task.listed in
      let product = mul-le-mul {n₁ = 100} {m₁ = 1027} {n₂ = task.period} {m₂ = ROUND / task.period}
      facts.at_least
      (omega arith) in
      omega (arith, facts.whole, product))
]

-- the tick lies in the period of this number
pub record HoldsTick (period p tick : ℕ) : Type 0 where
  pub low : p * period ≤ tick
  pub high : tick < (p + 1) * period
  pub in_round : p < ROUND / period
  pub few : p < MAX_PERIODS
  pub short : period ≤ ROUND

-- the period of this number holds the tick, as the division by the period says
pub holds_tick : (task : Periodic) (tick : ℕ) → tick < ROUND → HoldsTick task.period (tick / task.period) tick
holds_tick task tick lt =
    let facts = period_facts task.period task.listed in
    let some : 0 < task.period = omega (arith, facts.at_least) in
    let lt_whole : tick < ROUND / task.period * task.period = omega (arith, facts.whole) in
    let inside = (div-lt_iff_lt-mul {k = task.period} {x = tick} {y = ROUND / task.period} some).1 lt_whole in
    let few = few_periods task in
    record {
      low = div-mul-le_self tick task.period;
      high = (let up = lt-div-mul-add {a = tick} {b = task.period} some in omega arith);
      in_round = inside;
      few = omega arith;
      short = facts.at_most;
    }

-- a run grows in the period that holds its new ticks, and in no other
pub shared_here : (from tick end begin over : ℕ) → from ≤ tick → tick ≤ end → begin ≤ tick → end ≤ over
    → ticks_shared from end begin over ≡ ticks_shared from tick begin over + (end - tick)
shared_here from tick end begin over low rises begun within = omega arith

-- a cut within one period gives another period nothing
pub shared_elsewhere : (from tick end period p k : ℕ) → tick ≤ end → HoldsTick period p tick
    → end ≤ (p + 1) * period → k ≢ p
    → ticks_shared from end (k * period) ((k + 1) * period)
    ≡ ticks_shared from tick (k * period) ((k + 1) * period)
shared_elsewhere from tick end period p k rises holds within other = elim (cases_lt k p) [
  | inl before ↦
      let over : (k + 1) * period ≤ p * period = mul-le-mul_right {m = k + 1} {n = p} period (omega arith) in
      omega (arith, holds.low)
  | inr past ↦
      let begin : (p + 1) * period ≤ k * period = mul-le-mul_right {m = p + 1} {n = k} period (omega arith) in
      omega arith
]

-- no interval shares more than it has
pub shared_within : (from to begin over : ℕ) → ticks_shared from to begin over ≤ to - from
shared_within from to begin over = omega arith

-- an empty interval shares nothing
pub shared_none : (from begin over : ℕ) → ticks_shared from from begin over ≡ 0
shared_none from begin over = omega arith
