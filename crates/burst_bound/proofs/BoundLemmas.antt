-- A burst is done by its bound.
use Rattle.std.proofs.Common.{◌≡◌, ℕ, zero, suc, ◌+◌, ◌-◌, ◌*◌, ◌/◌, ◌%◌, ◌<◌, ◌≤◌, ◌⊎◌, inl, inr, length, ap, subst, ◌∙◌, arith}
use Rattle.std.specs.Prelude.{IsTrue}
use Rattle.std.specs.Int.{div_ceil}
use Rattle.std.proofs.Math.Nat.{lt-div-mul-add, suc-mul, add-mul}
use Rattle.std.proofs.lemmas.Bool.{cases_lt}
use Rattle.std.proofs.lemmas.Grind.{div_ceil_times}
use Rattle.tab_core.specs.declared.TheConstants.{ROUND}
use Rattle.tab_core.specs.declared.periodic.Periodic.{Periodic}
use Rattle.tab_core.specs.VcpuSets.{has_vcpu}
use Rattle.tab_core.proofs.Periods.{period_facts}
use Rattle.table_form.specs.Promises.Capped.{ticks_run}
use Rattle.table_form.specs.Running.Courses.{CourseView, IsCourse, runnable_after}
use Rattle.table_form.specs.Running.Complete.{IsComplete}
use Rattle.table_form.specs.Running.Invariant.{StateInvariant}
use Rattle.table_form.specs.Promises.Offered.{offers}
use Rattle.table_form.specs.Running.State.{State}
use Rattle.run_promises.proofs.ServedLemmas.{served, period_fits}
use Rattle.burst_bound.specs.Bursts.{IsSeenAt, IsSeenFrom, IsDoneAt, HasBudget, IsBurstBound}
use Rattle.burst_bound.proofs.LeastLemmas.{least_of}
use Rattle.burst_bound.proofs.PeriodLemmas.{begin_of, small_rest, offers_run, run_split}
use Rattle.burst_bound.proofs.RunningLemmas.{offered_runs}

-- what the bound gives in each whole period up to it
record Given (course : CourseView) (rounds : ℕ) (s : State) (event v x bound cost period : ℕ) : Type 0 where
  ok : IsCourse course
  kept : StateInvariant course rounds s
  whole : IsComplete course rounds s
  seen : IsSeenFrom s event x
  in_run : bound ≤ rounds * ROUND
  keeps : (r : ℕ) → x < (r + 1) * ROUND → r * ROUND < bound → HasBudget course s.decided r v cost period
  runnable : (n : ℕ) → event < n → n ≤ length course.ticks → IsTrue (has_vcpu (runnable_after course n) v)

-- one whole period
in_period : (course : CourseView) (rounds : ℕ) (s : State) (event v x bound cost period k : ℕ)
    → Given course rounds s event v x bound cost period → 1 ≤ period → period * (ROUND / period) ≡ ROUND
    → x ≤ k * period → k * period + period ≤ bound
    → cost ≤ ticks_run s v (k * period) period
in_period course rounds s event v x bound cost period k g some whole low high =
    let m = ROUND / period in
    let some_m : 1 ≤ m = at_least_one m period whole in
    let begin : k * period ≡ k / m * ROUND + k % m * period = begin_of period m k some_m whole in
    let small : k % m < m = small_rest m k some_m in
    let fits : k % m * period + period ≤ ROUND = period_fits period m (k % m) whole small in
    let budget = g.keeps (k / m) (omega arith) (omega arith) in
    let task : Periodic = budget.task in
    let same : ROUND / task.period ≡ m = ap (λ (n : ℕ). ROUND / n) budget.period_is in
    let enough = served course s g.ok (k / m) v (k % m) task budget.is (omega (arith, same, small)) in
    let offered : cost ≤ offers course s.decided v (k / m * ROUND + k % m * period) period =
    moved (λ n. offers course s.decided v (k / m * ROUND + k % m * n) n) task.cost cost task.period period
    budget.cost_is budget.period_is enough in
    let run = offers_run course s v (k / m * ROUND + k % m * period) period (λ y from to is.
    offered_runs course rounds s event v y x g.ok g.kept g.whole g.seen g.runnable (omega arith) (let most = g.in_run in omega arith) is) in
    let at = ap (λ (b : ℕ). ticks_run s v b period) begin in
    omega (arith, offered, run, at)
  where
    moved : (f : ℕ → ℕ) (a b p q : ℕ) → a ≡ b → p ≡ q → a ≤ f p → b ≤ f q
    moved f a b p q e h le = (let same = ap f h in omega (arith, e, same, le))

    at_least_one : (m t : ℕ) → t * m ≡ ROUND → 1 ≤ m
    at_least_one zero t h = absurd (let none : t * 0 ≡ 0 = grind arith in omega (arith, h, none))
    at_least_one (suc m) t h = omega arith

-- several of them in a row
in_periods : (course : CourseView) (rounds : ℕ) (s : State) (event v x bound cost period k n : ℕ)
    → Given course rounds s event v x bound cost period → 1 ≤ period → period * (ROUND / period) ≡ ROUND
    → x ≤ k * period → (k + n) * period ≤ bound
    → n * cost ≤ ticks_run s v (k * period) (n * period)
in_periods course rounds s event v x bound cost period k zero g some whole low high = omega arith
in_periods course rounds s event v x bound cost period k (suc n) g some whole low high =
    let next : suc n * period ≡ n * period + period = suc-mul n period in
    let costs : suc n * cost ≡ n * cost + cost = suc-mul n cost in
    let more : (k + n) * period ≡ k * period + n * period = add-mul k n period in
    let all : (k + suc n) * period ≡ k * period + suc n * period = add-mul k (suc n) period in
    let before = in_periods course rounds s event v x bound cost period k n g some whole low (omega arith) in
    let last = in_period course rounds s event v x bound cost period (k + n) g some whole (omega arith) (omega arith) in
    let split = run_split s v (k * period) (n * period) period in
    let at = ap (λ (b : ℕ). ticks_run s v b period) more in
    let long = ap (λ (b : ℕ). ticks_run s v (k * period) b) next in
    omega (arith, before, last, split, at, long, costs)

-- the law: the work is done within the whole periods that the bound counts
pub burst_done : (course : CourseView) (rounds event vcpu work seen bound : ℕ) (s : State)
    → IsCourse course → StateInvariant course rounds s → IsComplete course rounds s → IsSeenAt rounds s event seen
    → IsBurstBound course rounds s.decided event vcpu work seen bound
    → (done : ℕ) × IsDoneAt rounds s vcpu work seen done × (done ≤ bound)
burst_done course rounds event v work x bound s ok kept whole at b =
    let task : Periodic = b.first.task in
    let facts = period_facts task.period task.listed in
    let some : 1 ≤ b.period = omega (arith, facts.at_least, b.first.period_is) in
    let some_cost : 0 < b.cost = omega (arith, task.costs, b.first.cost_is) in
    let divides : b.period * (ROUND / b.period) ≡ ROUND =
    subst (λ (t : ℕ). t * (ROUND / t) ≡ ROUND) b.first.period_is facts.whole in
    let n : ℕ = div_ceil work b.cost in
    let first : ℕ = x / b.period + 1 in
    let enough : work ≤ n * b.cost = (div_ceil_times work b.cost some_cost).0 in
    let below = lt-div-mul-add {a = x} {b = b.period} (omega arith) in
    let next : first * b.period ≡ x / b.period * b.period + b.period =
    add-mul (x / b.period) 1 b.period ∙ one_times (x / b.period * b.period) b.period in
    let end : (first + n) * b.period ≡ first * b.period + n * b.period = add-mul first n b.period in
    let bound_is : bound ≡ (first + n) * b.period = b.bound_is in
    let run = in_periods course rounds s event v x bound b.cost b.period first n
    (record { ok = ok; kept = kept; whole = whole; seen = at.seen; in_run = b.in_run; keeps = b.keeps; runnable = b.runnable })
    some divides (omega arith) (omega arith) in
    let gap : ℕ = first * b.period - x in
    let split = run_split s v x gap (n * b.period) in
    let from = ap (λ (y : ℕ). ticks_run s v y (n * b.period)) (let e : x + gap ≡ first * b.period = omega arith in e) in
    let length_is = ap (λ (y : ℕ). ticks_run s v x y) (let e : gap + n * b.period ≡ bound - x = omega arith in e) in
    let done = least_of (λ k. (work ≤ ticks_run s v x k)) (λ k. test k) (bound - x)
    (omega (arith, enough, run, split, from, length_is)) in (
      x + done.0,
      record {
        in_run = (let most = b.in_run in omega (arith, done.1));
        after = omega arith;
        enough = (let e : x + done.0 - x ≡ done.0 = omega arith in rw e done.2);
        least = λ e low more. (let le = done.3 (e - x) more in omega arith);
      },
      omega (arith, done.1),
    )
  where
    test : (k : ℕ) → (work ≤ ticks_run s v x k) ⊎ ((work ≤ ticks_run s v x k) → ⊥)
    test k = elim (cases_lt (ticks_run s v x k) work) [
      | inl less ↦ inr (λ le. absurd (omega arith))
      | inr enough ↦ inl enough
    ]

    one_times : (a t : ℕ) → a + 1 * t ≡ a + t
    one_times a t = omega arith
