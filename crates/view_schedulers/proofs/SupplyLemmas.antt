-- What is kept where budgets come in periods.
use Rattle.std.proofs.Common.{◌≡◌, ℕ, zero, suc, ◌+◌, ◌-◌, ◌*◌, ◌/◌, ◌<◌, ◌≤◌, Bool, true, false, if◌then◌else◌, refl, ap, sym, ◌∙◌, arith}
use Rattle.std.proofs.Math.Nat.{div-eq_of_eq-mul_left, div-eq_of_lt-le, div-mul-le_self, lt-div-mul-add, mul-le-mul_left, suc-mul}
use Rattle.tab_core.specs.Sums.{total}
use Rattle.tab_core.specs.declared.TheConstants.{WHOLE_PPM}
use Rattle.tab_core.specs.declared.reservation.Reservation.{Reservation}
use Rattle.run_promises.proofs.Blocks.{Blocks, gap}
use Rattle.view_schedulers.specs.Supply.{GivesBudget, IsSupplyWait, KeepsShare, KeepsWait, given_in}

-- a unit that is given counts once
abbrev one : Bool → ℕ
one b = if b then 1 else 0

one_most : (b : Bool) → one b ≤ 1
one_most true = omega arith
one_most false = omega arith

none_given : (b : Bool) → b ≡ false → one b ≡ 0
none_given true h = absurd cc
none_given false h = refl

-- what is given is counted unit by unit
given_total : (given : ℕ → Bool) (from n : ℕ) → given_in given from n ≡ total (λ i. one (given (from + i))) n
unfolding given_in
given_total given from zero = refl
given_total given from (suc n) = ap (λ x. x + one (given (from + n))) (given_total given from n)

-- periods are blocks that each have the budget
blocks : (given : ℕ → Bool) (period budget top : ℕ) → 1 ≤ budget → budget ≤ period
    → GivesBudget given period budget
    → Blocks (λ x. one (given x)) (λ x. x / period * period) (λ x. period) (λ x. budget) 0 top
blocks given period budget top least within gives =
    let some : 0 < period = omega arith in
    record {
      one = λ x. one_most (given x);
      within = λ x low high. (div-mul-le_self x period, lt-div-mul-add {a = x} {b = period} some);
      cost_one = λ x low high. (least, within);
      offered = λ x low high.
          (let count = given_total given (x / period * period) period in
          let enough = gives (x / period) in
          omega arith);
      same = λ x y low high begun ends low_y.
          (let more : (x / period + 1) * period ≡ x / period * period + period = grind arith in
          let number : y / period ≡ x / period =
          div-eq_of_lt-le {k = x / period} period {m = y} begun (omega arith) in
          (ap (λ n. n * period) number, refl, refl));
      next = λ x y low high is top_y.
          (let more : suc (x / period) * period ≡ x / period * period + period = suc-mul (x / period) period in
          let number : y / period ≡ suc (x / period) =
          div-eq_of_eq-mul_left {n = period} {m = y} {k = suc (x / period)} some (is ∙ sym more) in
          ap (λ n. n * period) number ∙ (more ∙ sym is));
    }

-- no wait is longer than what the budget leaves of two periods
short_wait : (given : ℕ → Bool) (period budget first last : ℕ) → 1 ≤ budget → budget ≤ period
    → GivesBudget given period budget → IsSupplyWait given first last
    → suc last - first ≤ (period - budget) + (period - budget)
short_wait given period budget first last least within gives wait =
    let order = wait.order in
    let most = gap (λ x. one (given x)) (λ x. x / period * period) (λ x. period) (λ x. budget) 0 (suc last)
    first last (blocks given period budget (suc last) least within gives) (omega arith) order (omega arith)
    (λ x low high. none_given (given x) (wait.ungiven x low (omega arith))) in
    omega arith

-- a budget that is the share of its period keeps the share
pub keeps_share : (period budget : ℕ) (r : Reservation) → r.share_ppm * period ≤ WHOLE_PPM * budget
    → KeepsShare period budget r
keeps_share period budget r share given gives k =
    let enough = gives k in
    omega arith

-- one that leaves no more of two periods than the latency keeps that
pub keeps_wait : (unit period budget : ℕ) (r : Reservation) → 1 ≤ budget → budget ≤ period
    → unit * ((period - budget) + (period - budget)) ≤ r.latency_ns → KeepsWait unit period budget r
keeps_wait unit period budget r least within latency given gives first last wait =
    let short = short_wait given period budget first last least within gives wait in
    let times = mul-le-mul_left {m = suc last - first} {n = (period - budget) + (period - budget)} unit short in
    omega arith
