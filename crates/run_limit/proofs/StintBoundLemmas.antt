-- No core has more stints than its rounds can hold, and all together no more than the bound.
use Rattle.std.proofs.Common.{◌≡◌, ℕ, suc, ◌*◌, ◌≤◌, List, [], ◌∷◌, length, Some, refl, ap, arith}
use Rattle.std.specs.Prelude.{slice_get, take}
use Rattle.std.specs.List.{sum_by}
use Rattle.std.proofs.Math.Nat.{mul-add}
use Rattle.std.proofs.lemmas.List.Sums.{sum_by-cons}
use Rattle.std.proofs.lemmas.Option.{slice_get-get_or}
use Rattle.tab_core.specs.declared.TheConstants.{ROUND}
use Rattle.table_form.specs.Running.Courses.{CourseView, IsCourse, no_plan, plan_after, plan_number_after}
use Rattle.table_form.specs.Running.Invariant.{StateInvariant}
use Rattle.table_form.specs.Running.State.{CoreState, IsCore, State}
use Rattle.table_form.specs.Tables.Spots.{HasSpans}
use Rattle.run_limit.specs.StintBounds.{IsLargestSpans, IsStintBound, stints_in, stints_of_round}
use Rattle.run_limit.proofs.RaisedLemmas.{EndsBy, counts, ends_by_count, raised_most, raises}

-- the row's spans by the plan of a count
spans_after : (course : CourseView) (c most n : ℕ) → IsCourse course → IsLargestSpans course c most
    → n ≤ length course.ticks → (k : ℕ) × HasSpans (plan_after course n) c ROUND k × (k ≤ most)
spans_after course c most n ok largest le =
    largest.at_most (plan_number_after course n) (plan_after course n)
    (slice_get-get_or course.plans (plan_number_after course n) no_plan (ok.form.planned n le))

-- the ends of each round of a state
ends_of : (course : CourseView) (rounds c most : ℕ) (s : State) → IsCourse course
    → StateInvariant course rounds s
    → IsLargestSpans course c most → (r : ℕ) → EndsBy course (slice_get s.decided r) c most
ends_of course rounds c most s ok kept largest r =
    ends_by_count course (slice_get s.decided r) c most (λ d at.
    let posted = kept.decided_posted r d at in
    let few = kept.posted_most in
    spans_after course c most d ok largest (omega arith))

-- a core's stints
pub few_stints : (course : CourseView) (rounds c most : ℕ) (s : State) (core : CoreState)
    → IsCourse course → StateInvariant course rounds s → IsLargestSpans course c most → IsCore s c core
    → length core.stints ≤ rounds * stints_of_round course most
few_stints course rounds c most s core ok kept largest at =
    let k = kept.cores c core at in
    let uses = kept.table.cores c core at in
    let e = ends_of course rounds c most s ok kept largest in
    let count = counts course s.decided c most ok e 0 core.clock core.stints k.timeline.contiguous (λ i st h.
    let own = k.timeline.each i st h in
    raises course s.decided c most ok e (take i core.stints) st (k.stints.each i st h).dispatch
    (uses.stints i st h) own.some_ticks own.in_round) in
    let limit = raised_most course s.decided c most ok e rounds core.clock k.clock.in_run in
    omega (arith, count, limit)

-- numbers that are bounded core by core, and their sums
sums : (rounds : ℕ) (f : ℕ → ℕ) (g : CoreState → ℕ) (cores : List CoreState) (spans : List ℕ)
    → length spans ≡ length cores
    → ((c most : ℕ) (core : CoreState) → slice_get cores c ≡ Some core → slice_get spans c ≡ Some most
    → g core ≤ rounds * f most)
    → sum_by g cores ≤ rounds * sum_by f spans
sums rounds f g [] spans size each = omega arith
sums rounds f g (core ∷ cores) [] size each = absurd (omega (arith, size))
sums rounds f g (core ∷ cores) (most ∷ spans) size each =
    omega (
      arith,
      sum_by-cons g core cores,
      ap (λ (n : ℕ). rounds * n) (sum_by-cons f most spans),
      mul-add rounds (f most) (sum_by f spans),
      each 0 most core refl refl,
      sums rounds f g cores spans (omega (arith, size)) (λ c m x at is. each (suc c) m x at is),
    )

-- the stints of all cores
pub all_stints : (course : CourseView) (rounds bound : ℕ) (s : State) → IsCourse course
    → StateInvariant course rounds s → IsStintBound course rounds bound → stints_in s ≤ bound
all_stints course rounds bound s ok kept is =
    let most = sums rounds (stints_of_round course) (λ (core : CoreState). length core.stints)
    s.cores is.spans
    (omega (arith, is.size, kept.size))
    (λ c m core at listed. few_stints course rounds c m s core ok kept (is.largest c m listed) at) in
    omega (arith, most, is.bound_is)
