-- The opening flow: the fluid share of each interval, in whole ticks.
use Rattle.std.proofs.Common.{◌≡◌, ℕ, ◌+◌, ◌-◌, ◌*◌, ◌/◌, ◌<◌, ◌≤◌, ap, sym, ◌∙◌, arith, ⊎_elim}
use Rattle.std.proofs.lemmas.Bool.{cases_lt}
use Rattle.std.proofs.Math.Nat.{mul_comm, mul-le-mul_right, le_of_mul-le-mul_right, div-mul-le_self, le-div_iff_mul-le}
use Rattle.tab_core.specs.Sums.{total}
use Rattle.flow_net.specs.Load.{Load, IsLoad, span, jobs, round_demand, given, used, over_job}
use Rattle.flow_net.specs.Flows.{fluid}
use Rattle.tab_core.proofs.Totals.{total-le, total-const}
use Rattle.flow_net.proofs.Cut.{scaled}
use Rattle.flow_net.proofs.Wrapped.{opening}
use Rattle.flow_net.proofs.Spans.{window_of, over_window, spans_fill}

-- a quotient times its divisor is at most the dividend
div_low : (x t : ℕ) → x / t * t ≤ x
div_low x t = div-mul-le_self x t

-- a dividend is less than a divisor above the quotient's multiple of it
div_high : (x t : ℕ) → 0 < t → x + 1 ≤ x / t * t + t
div_high x t some =
    ⊎_elim (λ (h : x < (x / t + 1) * t). omega (arith, h))
    (λ (h : (x / t + 1) * t
    ≤ x). absurd (omega (arith, (le-div_iff_mul-le {k = t} {x = x / t + 1} {y = x} some).1 h)))
    (cases_lt x ((x / t + 1) * t))

-- the opening flow is at most the interval
pub fluid_short : (l : Load) → IsLoad l → (v i : ℕ) → v < l.width → fluid l v i ≤ span l i
fluid_short l ok v i h =
    let low = div_low (l.cost v * span l i) (l.period v) in
    let most = mul-le-mul_right (span l i) (ok.within v h) in
    le_of_mul-le-mul_right {k =
    l.period v} (omega (arith, low, most, mul_comm (l.period v) (span l i))) (ok.some_period v h)

-- what a job is given, and what it still needs: less than one tick on each of its intervals
pub fluid_given : (l : Load) → IsLoad l → (v k : ℕ) → v < l.width → k < jobs l v
    → (given l (fluid l) v k ≤ l.cost v) × (l.cost v + 1 ≤ given l (fluid l) v k + over_job l v k (λ i. 1))
fluid_given l ok v k h lt =
    let s = window_of l ok v k h lt in
    let w = s.2 in
    let n = s.1 - s.0 in
    let some = ok.some_period v h in
    let filled : total (λ j. span l (s.0 + j)) n
    ≡ l.period v = sym (over_window l ok v k s.0 s.1 w (span l)) ∙ spans_fill l ok v k h lt in
    let both = opening (l.cost v) (l.period v) n (λ j. span l (s.0 + j)) (λ j. fluid l v (s.0
    + j)) some (omega (arith, w.some)) filled
    (λ j i. div_low (l.cost v * span l (s.0 + j)) (l.period v)) (λ j i. div_high (l.cost v * span l (s.0
    + j)) (l.period v) some) in
    let given_is = over_window l ok v k s.0 s.1 w (fluid l v) in
    let ones = over_window l ok v k s.0 s.1 w (λ i. 1) ∙ total-const 1 n in
    (omega (arith, both.0, given_is), omega (arith, both.1, given_is, ones))

-- over a round it is at most the demand, by the share of the interval
fluid_demand : (l : Load) → IsLoad l → (v i : ℕ) → v < l.width → fluid l v i * l.round ≤ round_demand l v * span l i
fluid_demand l ok v i h =
    let low = mul-le-mul_right (jobs l v) (div_low (l.cost v * span l i) (l.period v)) in
    let f = fluid l v i in
    let whole : f * l.round ≡ f * l.period v * jobs l v = ap (λ n. f * n) (sym (ok.whole v h))
    ∙ omega arith in
    let turned : l.cost v * span l i * jobs l v ≡ round_demand l v * span l i = omega arith in
    omega (arith, low, whole, turned)

-- all vCPUs together use at most what the cores offer
pub fluid_used : (l : Load) → IsLoad l → total (round_demand l) l.width ≤ l.cores * l.round → (i : ℕ)
    → used l (fluid l) i ≤ l.cores * span l i
fluid_used l ok fits i =
    let each = total-le (λ v. fluid l v i * l.round) (λ v. round_demand l v * span l i) l.width
    (λ v h. fluid_demand l ok v i h) in
    let left = scaled (λ v. fluid l v i) l.round l.width in
    let right = scaled (round_demand l) (span l i) l.width in
    let most = mul-le-mul_right (span l i) fits in
    le_of_mul-le-mul_right {k = l.round} (omega (arith, each, left, right, most)) ok.some_round
