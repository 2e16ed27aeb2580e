-- What is counted of all ticks of a run is its report.
use Rattle.std.proofs.Common.{◌≡◌, ℕ, zero, suc, ◌+◌, ◌-◌, ◌*◌, ◌/◌, ◌<◌, ◌≤◌, inl, inr, Bool, true, false, not, List, length, Option, Some, None, is_some, refl, ap, sym, ◌∙◌, arith}
use Rattle.std.specs.Prelude.{slice_get, ◌&&◌}
use Rattle.std.proofs.lemmas.Bool.{and_parts, cases_eq, not-true, not_from_false}
use Rattle.std.specs.Cmp.Derive.{both_true}
use Rattle.std.proofs.lemmas.Option.{slice_get_within}
use Rattle.tab_core.specs.declared.TheConstants.{ROUND}
use Rattle.table_form.specs.Running.Courses.{CourseView}
use Rattle.table_form.specs.Promises.Gaps.{IsGap, task_at}
use Rattle.table_form.specs.Promises.Offered.{is_offered, offers, task_in}
use Rattle.run_counts.specs.Inside.Tells.{Tells, passing, waits_at}
use Rattle.run_counts.specs.Reports.{IsReported}
use Rattle.run_counts.specs.declared.stretch.Stretch.{Stretch}

-- a test that passes where one holds and the other doesn't
pub and_not : (a b : Bool) → a ≡ true → b ≡ false → (a && not b) ≡ true
and_not a b h g = both_true h (not_from_false b g)

-- the two cases of a test that passes
not_and : (a b : Bool) → (a && not b) ≡ true → (a ≡ true) × (b ≡ false)
not_and a b h = (let parts = and_parts a (not b) h in (parts.0, not-true b parts.1))

-- the offers of a run, counted by a test
offers_are : (course : CourseView) (decided : List ℕ) (v from n : ℕ)
    → offers course decided v from n ≡ passing (is_offered course decided v) from n
unfolding offers passing
offers_are course decided v from zero = refl
offers_are course decided v from (suc n) = omega (arith, offers_are course decided v from n)

-- where the vCPU has a task the round has a count
task_within : (course : CourseView) (decided : List ℕ) (r v : ℕ)
    → is_some (task_in course decided r v) ≡ true → r < length decided
task_within course decided r v h = by_case (slice_get decided r) refl
  where
    by_case : (o : Option ℕ) → slice_get decided r ≡ o → r < length decided
    by_case None is = absurd (let g : is_some (task_in course decided r v) ≡ false = rw is refl in cc)
    by_case (Some d) is = slice_get_within decided r d is

module _ (course : CourseView) (decided : List ℕ) (v : ℕ) (s : Stretch)
    (tells : Tells (waits_at course decided v) (is_offered course decided v) 0 s)
    (ticks : s.ticks ≡ length decided * ROUND) where
  -- no gap is longer than the longest wait
  most_ticks : (first last : ℕ) → IsGap course decided v first last → suc last - first ≤ s.most
  most_ticks first last gap =
      let order = gap.order in
      let inside = task_within course decided (last / ROUND) v (gap.has_task last order (omega arith)) in
      tells.longest first (suc last - first) (omega (arith, ticks, inside)) (λ t lt.
      let x : ℕ = 0 + first + t in
      and_not (is_some (task_at course decided v x)) (is_offered course decided v x)
      (gap.has_task x (omega arith) (omega arith)) (gap.unoffered x (omega arith) (omega arith)))

  -- the longest wait, tick by tick
  waits_there : (x : ℕ) → tells.place ≤ x → x < tells.place + s.most
      → (is_some (task_at course decided v x) ≡ true) × (is_offered course decided v x ≡ false)
  waits_there x low lt =
      let e : 0 + tells.place + (x - tells.place) ≡ x = omega arith in
      not_and (is_some (task_at course decided v x)) (is_offered course decided v x)
      (ap (waits_at course decided v) (sym e) ∙ tells.reached (x - tells.place) (omega arith))

  -- it is a gap, where it has a tick
  gap_there : (s.most ≡ 0 → ⊥) → IsGap course decided v tells.place (tells.place + s.most - 1)
  gap_there some = record {
    order = omega (arith, some);
    has_task = λ x low high. (waits_there x low (omega (arith, some))).0;
    unoffered = λ x low high. (waits_there x low (omega (arith, some))).1;
  }

  -- the report
  told_report : IsReported course decided v s.offered s.most
  told_report = record {
    offered_is = tells.count ∙ (ap (passing (is_offered course decided v) 0) ticks
        ∙ sym (offers_are course decided v 0 (length decided * ROUND)));
    gap_is = record {
      most = most_ticks;
      reached = elim (cases_eq s.most 0) [
        | inl none ↦ inl none
        | inr some ↦ inr (tells.place, tells.place + s.most - 1, gap_there some, omega (arith, some))
      ];
    };
  }

-- what is counted of all ticks is reported
pub reported : (course : CourseView) (decided : List ℕ) (v : ℕ) (s : Stretch)
    → Tells (waits_at course decided v) (is_offered course decided v) 0 s
    → s.ticks ≡ length decided * ROUND → IsReported course decided v s.offered s.most
reported course decided v s tells ticks = told_report course decided v s tells ticks
