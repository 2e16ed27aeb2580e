-- How many stints a core can have, within the bound on those of all cores.
use Rattle.std.proofs.Common.{◌≡◌, ℕ, ◌+◌, ◌*◌, ◌<◌, ◌≤◌, List, get_or, length, sym, subst, ◌∙◌, arith}
use Rattle.std.proofs.lemmas.List.{get_or-set_other, get_or-set_same}
use Rattle.std.proofs.Math.Nat.{mul-le-mul_left}
use Rattle.std.specs.Prelude.{slice_index, slice_set}
use mathlib.Core.Logic.{dite}
use native.Mathlib.Decide.{ℕ_discrete}
use Rattle.std.proofs.lemmas.List.Sums.{get_or-le-sum_by}
use Rattle.std.proofs.lemmas.Option.{get_or_from_slice_get}
use Rattle.std.specs.List.{sum_by}
use Rattle.tab_core.proofs.Lists.{element_at}
use Rattle.table_form.specs.Running.Courses.{CourseView}
use Rattle.run_limit.proofs.OneBound.{one_largest}
use Rattle.run_limit.specs.StintBounds.{IsLargestSpans, IsStintBound, stints_of_round}
use Rattle.run_course.specs.Inside.Keeping.{IsRoomFor, KeepAll}

-- a core's part of the bound is within it
pub part_within : (course : CourseView) (rounds bound c most : ℕ) → IsStintBound course rounds bound
    → c < course.cores → IsLargestSpans course c most → rounds * stints_of_round course most ≤ bound
part_within course rounds bound c most is lt largest =
    let inside : c < length is.spans = omega (arith, is.size) in
    let at = element_at is.spans c inside in
    let same : most ≡ at.0 = one_largest course c most at.0 largest (is.largest c at.0 at.1) in
    let here : get_or is.spans c 0 ≡ at.0 = get_or_from_slice_get is.spans c at.0 0 at.1 in
    let part : stints_of_round course (get_or is.spans c 0) ≤ sum_by (stints_of_round course) is.spans =
    get_or-le-sum_by (stints_of_round course) is.spans c 0 inside in
    let mine : stints_of_round course most ≤ sum_by (stints_of_round course) is.spans =
    subst (λ (n : ℕ). stints_of_round course n ≤ sum_by (stints_of_round course) is.spans) (here ∙ sym same) part in
    subst (λ (n : ℕ). rounds * stints_of_round course most ≤ n) (sym is.bound_is)
    (mul-le-mul_left rounds mine)

-- one core more has room
pub room_more : (course : CourseView) (rounds core most n : ℕ) (keep : List ℕ) → KeepAll course rounds keep core
    → core < length keep → IsLargestSpans course core most → n ≡ rounds * stints_of_round course most
    → KeepAll course rounds (slice_set keep core n) (core + 1)
room_more course rounds core most n keep so_far small largest is c lt = dite (ℕ_discrete c core)
    (λ same. subst (λ (k : ℕ). IsRoomFor course rounds k (slice_index (slice_set keep core n) k)) (sym same) (record {
      most = most;
      largest = largest;
      keep_is = get_or-set_same keep core n 0 small ∙ is;
    }))
    (λ other. subst (IsRoomFor course rounds c) (sym (get_or-set_other keep core c n 0 other))
    (so_far c (omega (arith, other))))
