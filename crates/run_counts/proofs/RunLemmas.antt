-- What the rounds of a run tell, one by one and those of one plan together.
use Rattle.std.proofs.Common.{◌≡◌, ℕ, zero, suc, ◌+◌, ◌*◌, ◌/◌, ◌%◌, ◌<◌, ◌≤◌, Bool, List, Some, refl, ap, sym, subst, arith}
use Rattle.std.specs.Prelude.{slice_get, slice_index_or}
use Rattle.tab_core.specs.declared.TheConstants.{ROUND}
use Rattle.table_form.specs.Running.Courses.{CourseView, no_plan, plan_after}
use Rattle.table_form.specs.Promises.Offered.{is_offered, some_row_has}
use Rattle.table_form.specs.Tables.Plans.{PlanView}
use Rattle.run_counts.specs.declared.stretch.Stretch.{Stretch}
use Rattle.run_counts.specs.Inside.Repeats.{HasSamePlan, repeated}
use Rattle.run_counts.specs.Inside.Sweeps.{EndsBy}
use Rattle.run_counts.specs.Inside.Tells.{IsToldRound, Tells, waits_at, waits_in}
use Rattle.run_counts.specs.Stretches.{joined, no_ticks}
use Rattle.run_counts.proofs.StretchLemmas.{tells_moved, tells_wait}
use Rattle.run_counts.proofs.JoinLemmas.{tells_both}

-- the stretch tells of the rounds from `first` up to `end`
pub record IsToldRun (course : CourseView) (decided : List ℕ) (v first end : ℕ) (w : Stretch) : Type 0 where
  pub tells : Tells (waits_at course decided v) (is_offered course decided v) (first * ROUND) w
  pub whole : first * ROUND + w.ticks ≡ end * ROUND

-- of no round
pub told_none : (course : CourseView) (decided : List ℕ) (v first : ℕ)
    → IsToldRun course decided v first first no_ticks
told_none course decided v first = record {
  tells = tells_wait (waits_at course decided v) (is_offered course decided v) (first * ROUND) 0
      (λ t lt. absurd (omega arith)) (λ t lt. absurd (omega arith));
  whole = omega arith;
}

-- of one, by its plan
pub told_one : (course : CourseView) (decided : List ℕ) (v r count : ℕ) (round : Stretch)
    → slice_get decided r ≡ Some count → IsToldRound (plan_after course count) v round
    → IsToldRun course decided v r (suc r) round
told_one course decided v r count round at is = record {
  tells = tells_moved (waits_in (plan_after course count) v) (some_row_has (plan_after course count).rows v) 0
      (waits_at course decided v) (is_offered course decided v) (r * ROUND) round
      (λ t lt. waits_here t (omega (arith, lt, is.whole)))
      (λ t lt. offered_here t (omega (arith, lt, is.whole))) is.tells;
  whole = omega (arith, is.whole);
}
  where
    waits_here : (t : ℕ) → t < ROUND
        → waits_at course decided v (r * ROUND + t) ≡ waits_in (plan_after course count) v (0 + t)
    waits_here t lt =
        let round_is : (r * ROUND + t) / ROUND ≡ r = omega arith in
        let place : (r * ROUND + t) % ROUND ≡ 0 + t = omega arith in
        rw (round_is, place, at) refl

    offered_here : (t : ℕ) → t < ROUND
        → is_offered course decided v (r * ROUND + t) ≡ some_row_has
        (plan_after course count).rows v (0 + t)
    offered_here t lt =
        let round_is : (r * ROUND + t) / ROUND ≡ r = omega arith in
        let place : (r * ROUND + t) % ROUND ≡ 0 + t = omega arith in
        rw (round_is, place, at) refl

-- of some rounds and then the next
pub told_both : (course : CourseView) (decided : List ℕ) (v first r end : ℕ) (a b : Stretch)
    → IsToldRun course decided v first r a → IsToldRun course decided v r end b
    → IsToldRun course decided v first end (joined a b)
told_both course decided v first r end a b before next = record {
  tells = tells_both waits offered (first * ROUND) a b before.tells
      (subst (λ (from : ℕ). Tells waits offered from b) (sym before.whole) next.tells);
  whole = omega (arith, before.whole, next.whole);
}
  where
    waits : ℕ → Bool
    waits = waits_at course decided v

    offered : ℕ → Bool
    offered = is_offered course decided v

-- of n rounds that each give the same
pub told_repeated : (course : CourseView) (decided : List ℕ) (v first n end : ℕ) (round : Stretch)
    → end ≡ first + n
    → ((r : ℕ) → first ≤ r → r < end → IsToldRun course decided v r (suc r) round)
    → IsToldRun course decided v first end (repeated round n)
unfolding repeated
told_repeated course decided v first zero end round at each =
    let e : first ≡ end = omega (arith, at) in
    subst (λ (r : ℕ). IsToldRun course decided v first r no_ticks) e (told_none course decided v first)
told_repeated course decided v first (suc n) end round at each =
    let e : suc (first + n) ≡ end = omega (arith, at) in
    told_both course decided v first (first + n) end (repeated round n) round
    (told_repeated course decided v first n (first + n) round refl (λ r low lt. each r low (omega arith)))
    (subst (λ (r : ℕ). IsToldRun course decided v (first + n) r round) e
    (each (first + n) (omega arith) (omega arith)))

-- rounds of the same plan give the same
pub told_alike : (course : CourseView) (decided : List ℕ) (v r q count other : ℕ) (round : Stretch)
    → slice_get decided r ≡ Some count → slice_get decided q ≡ Some other → HasSamePlan course decided r q
    → IsToldRound (plan_after course count) v round → IsToldRun course decided v q (suc q) round
told_alike course decided v r q count other round at at' same is =
    let plan : plan_after course count ≡ plan_after course other =
    ap (λ (k : ℕ). slice_index_or course.plans k no_plan) (same count other at at') in
    told_one course decided v q other round at' (subst (λ (p : PlanView). IsToldRound p v round) plan is)

-- what is counted of the first r rounds can be lengthened
pub ends_run : (course : CourseView) (decided : List ℕ) (v r most : ℕ) (w : Stretch)
    → IsToldRun course decided v 0 r w → r ≤ most → EndsBy (most * ROUND) w
ends_run course decided v r most w told le = record {
  small = told.tells.small;
  before = omega (arith, told.whole);
}

-- what is counted of a round can be lengthened
pub ends_round : (plan : PlanView) (v : ℕ) (w : Stretch) → IsToldRound plan v w → EndsBy ROUND w
ends_round plan v w told = record { small = told.tells.small; before = omega (arith, told.whole) }
