-- The largest number of spans, plan by plan, and its sum, core by core.
use Rattle.std.proofs.Common.{◌≡◌, ℕ, zero, suc, ◌+◌, ◌<◌, ◌≤◌, ◌⊎◌, inl, inr, List, [], ◌∷◌, ◌++◌, length, Some, max, length-append, refl, sym, subst, ◌∙◌, arith}
use Rattle.std.specs.Prelude.{slice_get, slice_index_or}
use Rattle.std.specs.List.{sum_by}
use Rattle.std.proofs.lemmas.Bool.{cases_lt}
use Rattle.std.proofs.lemmas.List.Sums.{sum_by-append, sum_by-cons}
use Rattle.std.proofs.lemmas.Option.{get_or_from_slice_get, slice_get-get_or, slice_get_within}
use Rattle.tab_core.proofs.Lists.{push_split}
use Rattle.tab_core.specs.declared.TheConstants.{ROUND}
use Rattle.table_form.specs.Running.Courses.{CourseView, IsCourse, no_plan}
use Rattle.table_form.specs.Tables.Plans.{PlanView}
use Rattle.table_form.specs.Tables.Spots.{HasSpans}
use Rattle.run_limit.specs.StintBounds.{IsLargestSpans, stints_of_round}

-- the plan of a number
abbrev plan_of : CourseView → ℕ → PlanView
plan_of course number = slice_index_or course.plans number no_plan

-- in the first n plans the core's row has at most so many spans, and so many in one
pub record IsLargestOf (course : CourseView) (c n most : ℕ) : Type 0 where
  pub at_most : (m : ℕ) → m < n → (count : ℕ) × HasSpans (plan_of course m) c ROUND count × (count ≤ most)
  pub reached : 0 < n → (m : ℕ) × (m < n) × HasSpans (plan_of course m) c ROUND most
  pub none : n ≡ 0 → most ≡ 0

-- in none
pub largest_none : (course : CourseView) (c : ℕ) → IsLargestOf course c 0 0
largest_none course c = record {
  at_most = λ m lt. absurd (omega arith);
  reached = λ some. absurd (omega arith);
  none = λ is. refl;
}

-- one of the numbers below the next is below, or the last
last_or : (m n : ℕ) → m < n + 1 → (m < n) ⊎ (m ≡ n)
last_or m n lt = elim (cases_lt m n) [ inl below ↦ inl below | inr at ↦ inr (omega arith) ]

-- in one plan more
pub largest_more : (course : CourseView) (c n most count : ℕ) → IsLargestOf course c n most
    → HasSpans (plan_of course n) c ROUND count → IsLargestOf course c (n + 1) (max most count)
largest_more course c n most count so_far has = record {
  at_most = λ m lt. elim (last_or m n lt) [
    | inl below ↦ (let old = so_far.at_most m below in (old.0, old.1, omega (arith, old.2)))
    | inr at ↦ (count, subst (λ (k : ℕ). HasSpans (plan_of course k) c ROUND count) (sym at) has, omega arith)
  ];
  reached = λ some. elim (cases_lt count most) [
    | inl less ↦ old less n refl
    | inr more ↦ (
      n,
      omega arith,
      subst (HasSpans (plan_of course n) c ROUND)
          (let e : count ≡ max most count = omega arith in e) has,
    )
  ];
  none = λ is. absurd (omega (arith, is));
}
  where
    old : count < most → (k : ℕ) → k ≡ n
        → (m : ℕ) × (m < n + 1) × HasSpans (plan_of course m) c ROUND (max most count)
    old less zero is = absurd (let none = so_far.none (sym is) in omega arith)
    old less (suc k) is =
        let found = so_far.reached (omega (arith, is)) in (
          found.0,
          omega (arith, found.1),
          subst (HasSpans (plan_of course found.0) c ROUND)
              (let e : most ≡ max most count = omega arith in e) found.2,
        )

-- in all
pub largest_all : (course : CourseView) (c n most : ℕ) → IsCourse course → n ≡ length course.plans
    → IsLargestOf course c n most → IsLargestSpans course c most
largest_all course c n most ok all so_far =
    let some = ok.form.planned 0 (omega arith) in
    let reach = so_far.reached (omega (arith, all, some)) in
    record {
      at_most = λ k plan at.
          let lt = slice_get_within course.plans k plan at in
          let found = so_far.at_most k (omega (arith, all, lt)) in
          let is = get_or_from_slice_get course.plans k plan no_plan at in
          (found.0, subst (λ (p : PlanView). HasSpans p c ROUND found.0) is found.1, found.2);
      number = reach.0;
      plan = plan_of course reach.0;
      listed = slice_get-get_or course.plans reach.0 no_plan (omega (arith, reach.1, all));
      reached = reach.2;
    }

-- the sum of the first n cores' stints in a round
pub record IsSumOf (course : CourseView) (n sum : ℕ) : Type 0 where
  pub spans : List ℕ
  pub size : length spans ≡ n
  pub largest : (c most : ℕ) → slice_get spans c ≡ Some most → IsLargestSpans course c most
  pub sum_is : sum ≡ sum_by (stints_of_round course) spans

-- of none
pub sum_none : (course : CourseView) → IsSumOf course 0 0
sum_none course = record { spans = []; size = refl; largest = λ c most at. absurd cc; sum_is = refl }

-- of a core more
pub sum_more : (course : CourseView) (n sum most more : ℕ) → IsSumOf course n sum
    → IsLargestSpans course n most
    → more ≡ stints_of_round course most → IsSumOf course (n + 1) (sum + more)
sum_more course n sum most more so_far largest is = record {
  spans = so_far.spans ++ most ∷ [];
  size = omega (arith, length-append so_far.spans (most ∷ []), so_far.size);
  largest = λ c m at. elim (push_split so_far.spans c most m at) [
    | inl old ↦ so_far.largest c m old
    | inr new ↦ subst (λ (x : ℕ). IsLargestSpans course c x) new.1
        (subst (λ (d : ℕ). IsLargestSpans course d most) (sym (new.0 ∙ so_far.size)) largest)
  ];
  sum_is = omega (
    arith,
    sum_by-append (stints_of_round course) so_far.spans (most ∷ []),
    sum_by-cons (stints_of_round course) most [],
    so_far.sum_is,
    is,
  );
}
