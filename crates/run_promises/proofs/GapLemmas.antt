-- The gaps between a vCPU's offers are short, across rounds whose plans differ.
use Rattle.std.proofs.Common.{◌≡◌, ℕ, suc, ◌+◌, ◌*◌, ◌/◌, ◌%◌, ◌<◌, ◌≤◌, inl, inr, Bool, true, false, List, Option, Some, None, refl, ap, sym, subst, ◌∙◌, arith}
use Rattle.std.proofs.Math.Nat.{div-mul-le_self, mod-eq-sub-div-mul, mul-le-mul_right, suc-mul}
use Rattle.std.proofs.lemmas.Bool.{cases_lt}
use Rattle.std.specs.Option.{IsSome}
use Rattle.tab_core.specs.declared.TheConstants.{ROUND}
use Rattle.tab_core.specs.declared.periodic.Periodic.{Periodic}
use Rattle.tab_core.proofs.Periods.{period_facts}
use Rattle.tab_core.specs.Sums.{total}
use Rattle.table_form.specs.Running.Courses.{CourseView, IsCourse}
use Rattle.table_form.specs.Promises.Offered.{is_offered}
use Rattle.table_form.specs.Promises.Gaps.{IsGap, HasShortGaps, task_at}
use Rattle.table_form.specs.Running.State.{State}
use Rattle.run_promises.proofs.Blocks.{Blocks, gap}
use Rattle.run_promises.proofs.ServedLemmas.{served, period_fits}
use Rattle.run_promises.proofs.OfferedLemmas.{one, offers_total}

-- where in its period a place lies
remainder : (t p : ℕ) → 1 ≤ t → (p / t * t ≤ p) × (p < p / t * t + t)
remainder t p some =
    (let le = div-mul-le_self p t in let rest = mod-eq-sub-div-mul p t in
    (omega arith, omega arith))

-- for `quotient`: the period that holds a place is not an earlier one
not_less : (t p q k : ℕ) → q * t ≤ p → p < k * t + t → k < q → ⊥
not_less t p q k low high lt =
    let le : suc k * t ≤ q * t = mul-le-mul_right t (omega arith) in
    let more = suc-mul k t in
    absurd (omega arith)

-- the number of the period that holds a place
quotient : (t p q : ℕ) → 1 ≤ t → q * t ≤ p → p < q * t + t → p / t ≡ q
quotient t p q some low high =
    let parts = remainder t p some in
    elim (cases_lt (p / t) q) [
      | inl lt ↦ absurd (not_less t p q (p / t) low parts.1 lt)
      | inr le ↦ elim (cases_lt q (p / t)) [
        | inl lt ↦
            absurd (not_less t p (p / t) q parts.0 high lt)
        | inr le' ↦ omega arith
      ]
    ]

-- the period that holds a place is one of the round's
quotient_small : (t m p : ℕ) → 1 ≤ t → t * m ≡ ROUND → p < ROUND → p / t < m
quotient_small t m p some whole lt = elim (cases_lt (p / t) m) [
  | inl less ↦ less
  | inr more ↦
      let le : m * t ≤ p / t * t = mul-le-mul_right t more in
      let parts = remainder t p some in
      absurd (omega arith)
]

-- the period of a task; 1 stands for that of none
period_of : Option Periodic → ℕ
period_of None = 1
period_of (Some task) = task.period

-- likewise for its cost
cost_of : Option Periodic → ℕ
cost_of None = 1
cost_of (Some task) = task.cost

-- the period and the cost of the vCPU in the round of a tick, and the begin of the period that holds the tick
span : CourseView → List ℕ → ℕ → ℕ → ℕ
span course decided v x = period_of (task_at course decided v x)

cost : CourseView → List ℕ → ℕ → ℕ → ℕ
cost course decided v x = cost_of (task_at course decided v x)

base : CourseView → List ℕ → ℕ → ℕ → ℕ
base course decided v x = x / ROUND * ROUND + x % ROUND / span course decided v x * span course decided v x

-- what the arithmetic of blocks needs of a tick at which the vCPU has this task
record AtTick (course : CourseView) (decided : List ℕ) (v x : ℕ) (task : Periodic) : Type 0 where
  span_is : span course decided v x ≡ task.period
  cost_is : cost course decided v x ≡ task.cost
  base_is : base course decided v x ≡ x / ROUND * ROUND + x % ROUND / task.period * task.period
  some : 1 ≤ task.period
  low : x % ROUND / task.period * task.period ≤ x % ROUND
  high : x % ROUND < x % ROUND / task.period * task.period + task.period
  small : x % ROUND / task.period < ROUND / task.period
  fits : x % ROUND / task.period * task.period + task.period ≤ ROUND

-- each such tick has it, since whole periods fill the round
at_tick : (course : CourseView) (decided : List ℕ) (v x : ℕ) (task : Periodic)
    → task_at course decided v x ≡ Some task → AtTick course decided v x task
unfolding span cost base period_of cost_of
at_tick course decided v x task is =
    let facts = period_facts task.period task.listed in
    let some : 1 ≤ task.period = omega (arith, facts.at_least) in
    let parts = remainder task.period (x % ROUND) some in
    let small = quotient_small task.period (ROUND / task.period) (x % ROUND) some facts.whole (omega arith) in
    let span_is : period_of (task_at course decided v x) ≡ task.period = ap period_of is in
    record {
      span_is = span_is;
      cost_is = ap cost_of is;
      base_is = ap (λ (n : ℕ). x / ROUND * ROUND + x % ROUND / n * n) span_is;
      some = some;
      low = parts.0;
      high = parts.1;
      small = small;
      fits = period_fits task.period (ROUND / task.period) (x % ROUND / task.period) facts.whole small;
    }

-- an offer counts once
one_most : (b : Bool) → one b ≤ 1
one_most true = omega arith
one_most false = omega arith

-- the task that is there
pub some_task : (o : Option Periodic) → IsSome o → (task : Periodic) × (o ≡ Some task)
some_task None h = absurd cc
some_task (Some task) h = (task, refl)

-- the periods of the gap's ticks are blocks with the tasks' costs of offers
blocks : (course : CourseView) (s : State) (v a l : ℕ) → IsCourse course
    → IsGap course s.decided v a l →
    Blocks (λ x. one (is_offered course s.decided v x)) (base course s.decided v)
    (span course s.decided v) (cost course s.decided v) a (suc l)
blocks course s v a l ok g = record {
  one = λ x. one_most (is_offered course s.decided v x);
  within = λ x low high.
      (let held = some_task (task_at course s.decided v x) (g.has_task x low (omega arith)) in let at = at_tick course s.decided v x held.0 held.1 in
      (omega (arith, at.base_is, at.low), omega (arith, at.base_is, at.span_is, at.high)));
  cost_one =
      λ x low high.
      (let held = some_task (task_at course s.decided v x) (g.has_task x low (omega arith)) in
      let at = at_tick course s.decided v x held.0 held.1 in
      let task : Periodic = held.0 in
      (omega (arith, at.cost_is, task.costs), omega (arith, at.cost_is, at.span_is, task.within)));
  offered = λ x low high.
      let held = some_task (task_at course s.decided v x) (g.has_task x low (omega arith)) in
      let task : Periodic = held.0 in
      let at = at_tick course s.decided v x task held.1 in
      let from : ℕ = x / ROUND * ROUND + x % ROUND / task.period * task.period in
      let enough = served course s ok (x / ROUND) v (x % ROUND / task.period) task held.1 at.small in
      let counted : task.cost ≤ total (λ t. one (is_offered course s.decided v (from + t)))
      task.period = subst (λ (n : ℕ). task.cost ≤ n)
      (offers_total course s.decided v from task.period) enough in
      let based : task.cost
      ≤ total (λ t. one (is_offered course s.decided v (base course s.decided v x + t)))
      task.period =
      subst (λ (b : ℕ). task.cost ≤ total (λ t. one (is_offered course s.decided v (b + t)))
      task.period) (sym at.base_is) counted in
      let spanned : task.cost
      ≤ total (λ t. one (is_offered course s.decided v (base course s.decided v x + t)))
      (span course s.decided v x) =
      subst (λ (n : ℕ). task.cost
      ≤ total (λ t. one (is_offered course s.decided v (base course s.decided v x + t))) n)
      (sym at.span_is) based in
      subst (λ (n : ℕ). n
      ≤ total (λ t. one (is_offered course s.decided v (base course s.decided v x + t)))
      (span course s.decided v x)) (sym at.cost_is) spanned;
  same = λ x y low high begun going low_y.
      let held = some_task (task_at course s.decided v x) (g.has_task x low (omega arith)) in
      let task : Periodic = held.0 in
      let at = at_tick course s.decided v x task held.1 in
      let round : y / ROUND ≡ x / ROUND = omega (arith, at.base_is, at.span_is, at.fits) in
      let at_y = at_tick course s.decided v y task (rw round held.1) in
      let number : y % ROUND / task.period ≡ x % ROUND / task.period =
      quotient task.period (y % ROUND) (x % ROUND / task.period) at.some
      (omega (arith, at.base_is, at.span_is, at.fits)) (omega (arith, at.base_is, at.span_is, at.fits)) in (
        at_y.base_is ∙ (rw (round, number) refl ∙ sym at.base_is),
        at_y.span_is ∙ sym at.span_is,
        at_y.cost_is ∙ sym at.cost_is,
      );
  next = λ x y low high is top.
      let held = some_task (task_at course s.decided v x) (g.has_task x low (omega arith)) in
      let task : Periodic = held.0 in
      let at = at_tick course s.decided v x task held.1 in
      elim (cases_lt (x % ROUND / task.period * task.period + task.period) ROUND) [
        | inl inside ↦ (let round : y / ROUND ≡ x / ROUND = omega (arith, at.base_is, at.span_is) in
            let at_y = at_tick course s.decided v y task (rw round held.1) in
            let more = suc-mul (x % ROUND / task.period) task.period in
            let number : y % ROUND / task.period ≡ suc (x % ROUND / task.period) =
            quotient task.period (y % ROUND) (suc (x % ROUND / task.period)) at.some
            (omega (arith, at.base_is, at.span_is)) (omega (arith, at.base_is, at.span_is, at.some)) in
            let begin : y % ROUND / task.period * task.period
            ≡ suc (x % ROUND / task.period) * task.period =
            ap (λ (n : ℕ). n * task.period) number in
            omega (arith, at_y.base_is, at.base_is, at.span_is, begin))
        | inr whole ↦ (let held_y = some_task (task_at course s.decided v y)
            (g.has_task y (omega (arith, at.base_is, at.span_is, at.high)) (omega arith)) in
            let at_y = at_tick course s.decided v y held_y.0 held_y.1 in
            omega (arith, at.base_is, at.span_is, at.fits, at_y.base_is, at_y.low))
      ];
}

-- a tick without an offer counts nothing
none_offered : (b : Bool) → b ≡ false → one b ≡ 0
none_offered true h = absurd cc
none_offered false h = refl

-- the promise: no offer leaves at most the rest of the first and of the last tick's period
pub short_gaps : (course : CourseView) (s : State) → IsCourse course → HasShortGaps course s
short_gaps course s ok = λ v a l before after g has_before has_after.
    let at_a = at_tick course s.decided v a before has_before in
    let at_l = at_tick course s.decided v l after has_after in
    let order = g.order in
    let most = gap (λ x. one (is_offered course s.decided v x)) (base course s.decided v)
    (span course s.decided v) (cost course s.decided v) a (suc l) a l
    (blocks course s v a l ok g) (omega arith) order (omega arith)
    (λ x low high. none_offered (is_offered course s.decided v x) (g.unoffered x low (omega arith))) in
    omega (
      arith,
      most,
      at_a.span_is,
      at_a.cost_is,
      at_l.span_is,
      at_l.cost_is,
      before.within,
      after.within,
    )
