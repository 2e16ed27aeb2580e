-- What a plan offers a vCPU in each of its periods, as the rows repeat round after round.
use Rattle.std.proofs.Common.{◌≡◌, ℕ, zero, suc, ◌+◌, ◌-◌, ◌*◌, ◌/◌, ◌%◌, ◌<◌, ◌≤◌, Bool, true, false, [], ◌∷◌, Some, refl, ap, sym, ◌∙◌, arith}
use Rattle.std.specs.Prelude.{slice_get}
use Rattle.std.proofs.Math.Nat.{div-eq_of_eq-mul_left, div-eq_of_lt-le, div-mul-le_self, le-div_iff_mul-le, lt-div-mul-add, suc-mul}
use Rattle.tab_core.specs.Budgets.{slack_of}
use Rattle.tab_core.specs.declared.TheConstants.{ROUND}
use Rattle.tab_core.specs.declared.periodic.Periodic.{Periodic}
use Rattle.tab_core.proofs.Periods.{period_at_least, period_facts}
use Rattle.tab_core.specs.Sums.{total}
use Rattle.table_form.specs.Running.Courses.{CourseView}
use Rattle.table_form.specs.Promises.Offered.{is_offered, offers}
use Rattle.table_form.specs.Tables.Plans.{PlanView}
use Rattle.table_form.specs.Tables.Serves.{Apart, Serves, supply}
use Rattle.run_promises.proofs.Blocks.{Blocks, gap}
use Rattle.run_promises.proofs.OfferedLemmas.{offers_supply, one}
use Rattle.run_promises.proofs.ServedLemmas.{period_fits}
use Rattle.plan_promises.specs.Reservations.{IsWait, is_offered_in, offers_in}

-- a course of the plan alone, since the lemmas of offers speak of courses
abbrev of_one_plan : PlanView → CourseView
of_one_plan plan = record {
  cores = 1;
  lag = 1;
  quantum = 1;
  ticks = [];
  plans = plan ∷ [];
  numbers = 0 ∷ [];
  runnable = [] ∷ [];
}

-- each round offers what the first one of a run on that course does
round_offers : (plan : PlanView) (v r start n : ℕ) → start + n ≤ ROUND
    → offers (of_one_plan plan) (0 ∷ []) v (0 * ROUND + start) n ≡ offers_in plan v (r * ROUND + start) n
unfolding offers offers_in
round_offers plan v r start zero within = refl
round_offers plan v r start (suc n) within =
    let x : ℕ = 0 * ROUND + start + n in
    let y : ℕ = r * ROUND + start + n in
    let round : x / ROUND ≡ 0 = omega arith in
    let first : x % ROUND ≡ start + n = omega arith in
    let place : y % ROUND ≡ start + n = omega arith in
    let same : is_offered (of_one_plan plan) (0 ∷ []) v x ≡ is_offered_in plan v y =
    rw (round, first, place) refl in
    omega (arith, ap one same, round_offers plan v r start n (omega arith))

-- the begin of a period, by its round and its number in the round
period_begins : (t m k r q : ℕ) → t * m ≡ ROUND → k ≡ r * m + q → k * t ≡ r * ROUND + q * t
period_begins t m k r q whole is =
    let parts : (r * m + q) * t ≡ r * (t * m) + q * t = grind arith in
    ap (λ n. n * t) is ∙ (parts ∙ ap (λ n. r * n + q * t) whole)

-- a vCPU with a task is offered its cost in each of its periods
pub period_offers : (plan : PlanView) (v k : ℕ) (task : Periodic) → Serves plan.tasks plan.rows
    → Apart plan.rows → slice_get plan.tasks v ≡ Some (Some task)
    → task.cost ≤ offers_in plan v (k * task.period) task.period
period_offers plan v k task serves apart at =
    let facts = period_facts task.period task.listed in
    let t : ℕ = task.period in
    let m : ℕ = ROUND / task.period in
    let least = facts.at_least in
    let most = facts.at_most in
    let some : 1 ≤ m = (le-div_iff_mul-le {k = t} {x = 1} {y = ROUND} (omega arith)).1 (omega arith) in
    let r : ℕ = k / m in
    let low = div-mul-le_self k m in
    let high = lt-div-mul-add {a = k} {b = m} (omega arith) in
    let q : ℕ = k - r * m in
    let begins = period_begins t m k r q facts.whole (omega arith) in
    let fits = period_fits t m q facts.whole (omega arith) in
    let enough = serves v task at q (omega arith) in
    let end : (q + 1) * t ≡ q * t + t = grind arith in
    let cells : task.cost ≤ supply v plan.rows (q * t) (q * t + t) = rw (← end) enough in
    let offered = offers_supply (of_one_plan plan) (0 ∷ []) v 0 0 (q * t) t refl apart fits in
    let same = round_offers plan v r (q * t) t fits in
    rw begins (omega arith)

-- the offers are counted tick by tick
offers_in_total : (plan : PlanView) (v from n : ℕ)
    → offers_in plan v from n ≡ total (λ i. one (is_offered_in plan v (from + i))) n
unfolding offers_in
offers_in_total plan v from zero = refl
offers_in_total plan v from (suc n) = omega (arith, offers_in_total plan v from n)

-- an offer counts once
one_most : (b : Bool) → one b ≤ 1
one_most true = omega arith
one_most false = omega arith

-- a tick without an offer counts nothing
none_offered : (b : Bool) → b ≡ false → one b ≡ 0
none_offered true h = absurd cc
none_offered false h = refl

-- the vCPU's periods are blocks that each have the cost in offers
period_blocks : (plan : PlanView) (v top : ℕ) (task : Periodic)
    → ((k : ℕ) → task.cost ≤ offers_in plan v (k * task.period) task.period)
    → Blocks (λ x. one (is_offered_in plan v x)) (λ x. x / task.period * task.period)
    (λ x. task.period) (λ x. task.cost) 0 top
period_blocks plan v top task each =
    let some : 0 < task.period = omega (arith, period_at_least task.period task.listed) in
    record {
      one = λ x. one_most (is_offered_in plan v x);
      within = λ x low high. (div-mul-le_self x task.period, lt-div-mul-add {a = x} {b = task.period} some);
      cost_one = λ x low high. (task.costs, task.within);
      offered = λ x low high.
          (let count = offers_in_total plan v (x / task.period * task.period) task.period in
          let enough = each (x / task.period) in
          omega arith);
      same = λ x y low high begun ends low_y.
          (let more : (x / task.period + 1) * task.period ≡ x / task.period * task.period + task.period =
          grind arith in
          let number : y / task.period ≡ x / task.period =
          div-eq_of_lt-le {k = x / task.period} task.period {m = y} begun (omega arith) in
          (ap (λ n. n * task.period) number, refl, refl));
      next = λ x y low high is top_y.
          (let more : suc (x / task.period) * task.period ≡ x / task.period * task.period + task.period =
          suc-mul (x / task.period) task.period in
          let number : y / task.period ≡ suc (x / task.period) =
          div-eq_of_eq-mul_left {n = task.period} {m = y} {k = suc (x / task.period)} some (is ∙ sym more) in
          ap (λ n. n * task.period) number ∙ (more ∙ sym is));
    }

-- no wait has more ticks than the budget leaves out of two periods
pub short_waits : (plan : PlanView) (v first last : ℕ) (task : Periodic)
    → ((k : ℕ) → task.cost ≤ offers_in plan v (k * task.period) task.period)
    → IsWait plan v first last → suc last - first ≤ slack_of task + slack_of task
short_waits plan v first last task each wait =
    let order = wait.order in
    let within = task.within in
    let most = gap (λ x. one (is_offered_in plan v x)) (λ x. x / task.period * task.period)
    (λ x. task.period) (λ x. task.cost) 0 (suc last) first last
    (period_blocks plan v (suc last) task each) (omega arith) order (omega arith)
    (λ x low high. none_offered (is_offered_in plan v x) (wait.unoffered x low (omega arith))) in
    omega arith
