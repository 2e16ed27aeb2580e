use Rattle.std.proofs.Common.{◌≡◌, ℕ, inl, inr, Some, List, get_or, ap, sym, subst, ◌∙◌, arith}
use Rattle.std.specs.Prelude.{slice_get}
use Rattle.std.proofs.lemmas.Bool.{cases_lt}
use Rattle.std.proofs.lemmas.Option.{get_or_from_slice_get}
use Rattle.table_form.specs.Running.Courses.{CourseView, plan_number_after}
use Rattle.run_counts.proofs.counting.plan_lasts_to.Goals as goal

-- the number of the plan of a round, from its count as it is read
number_of : (course : CourseView) (used : List ℕ) (r count n : ℕ)
    → n ≡ plan_number_after course (get_or used r 0)
    → slice_get used r ≡ Some count → n ≡ plan_number_after course count
number_of course used r count n is at = is
    ∙ ap (plan_number_after course) (get_or_from_slice_get used r count 0 at)

pub loop-q-preserved : goal.loop-q-preserved
loop-q-preserved c = λ p low lt count other at at'.
    let course = c.args.course.now in
    let used = c.args.used.now in
    elim (cases_lt p c.loop-q.q) [
      | inl early ↦ c.loop-q.invariant p low early count other at at'
      | inr late ↦ (let here : p ≡ c.loop-q.q = omega (arith, lt, late) in
          let at_q : slice_get used c.loop-q.q ≡ Some other =
          subst (λ (k : ℕ). slice_get used k ≡ Some other) here at' in
          sym (number_of course used c.args.r count c.plan_number-number.result
          c.plan_number-number.ensures.number at)
          ∙ (sym c.if-plan_number-number.false
          ∙ number_of course used c.loop-q.q other c.plan_number.result c.plan_number.ensures.number at_q))
    ]

pub returns-clause-same : goal.returns-clause-same
returns-clause-same c = λ q low lt.
    c.loop-q.invariant q low (omega (arith, lt, c.loop-q-test.false, c.loop-q.auto.q-end))
