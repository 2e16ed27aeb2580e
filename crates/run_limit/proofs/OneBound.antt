-- A course has one bound.
use Rattle.std.proofs.Common.{◌≡◌, ℕ, suc, ◌*◌, ◌≤◌, List, [], ◌∷◌, length, Some, refl, ap, sym, ◌∙◌, arith}
use Rattle.std.specs.Prelude.{slice_get}
use Rattle.std.specs.List.{sum_by}
use Rattle.std.proofs.lemmas.List.Sums.{sum_by-cons}
use Rattle.tab_core.specs.declared.TheConstants.{ROUND}
use Rattle.table_form.specs.Running.Courses.{CourseView}
use Rattle.run_limit.specs.StintBounds.{IsLargestSpans, IsStintBound, stints_of_round}
use Rattle.run_limit.proofs.SpanLemmas.{one_count}

-- the one largest number of spans isn't above the other
not_more : (course : CourseView) (c m n : ℕ) → IsLargestSpans course c m → IsLargestSpans course c n → m ≤ n
not_more course c m n a b =
    let found = b.at_most a.number a.plan a.listed in
    let same = one_count a.plan c ROUND found.0 m found.1 a.reached in
    omega (arith, found.2, same)

-- two largest numbers of spans are the same
pub one_largest : (course : CourseView) (c m n : ℕ) → IsLargestSpans course c m
    → IsLargestSpans course c n → m ≡ n
one_largest course c m n a b =
    (let le = not_more course c m n a b in let le' = not_more course c n m b a in omega arith)

-- sums of numbers that are the same place by place
same_sum : (f : ℕ → ℕ) (xs ys : List ℕ) → length xs ≡ length ys
    → ((k x y : ℕ) → slice_get xs k ≡ Some x → slice_get ys k ≡ Some y → x ≡ y) → sum_by f xs ≡ sum_by f ys
same_sum f [] [] size each = refl
same_sum f [] (y ∷ ys) size each = absurd (omega (arith, size))
same_sum f (x ∷ xs) [] size each = absurd (omega (arith, size))
same_sum f (x ∷ xs) (y ∷ ys) size each =
    omega (
      arith,
      sum_by-cons f x xs,
      sum_by-cons f y ys,
      ap f (each 0 x y refl refl),
      same_sum f xs ys (omega (arith, size)) (λ k a b h g. each (suc k) a b h g),
    )

-- two bounds are the same
pub one_bound : (course : CourseView) (rounds a b : ℕ) → IsStintBound course rounds a
    → IsStintBound course rounds b → a ≡ b
one_bound course rounds a b x y =
    let same = same_sum (stints_of_round course) x.spans y.spans (x.size ∙ sym y.size)
    (λ c m n h g. one_largest course c m n (x.largest c m h) (y.largest c n g)) in
    x.bound_is ∙ (ap (λ (n : ℕ). rounds * n) same ∙ sym y.bound_is)
