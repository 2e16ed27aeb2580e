-- Which of a core's sights are recent enough.
use Rattle.std.proofs.Common.{◌≡◌, ℕ, ◌+◌, ◌-◌, ◌<◌, inl, inr, Bool, true, false, cond, List, [], ◌∷◌, drop, length, Some, None, refl, ap, sym, subst, ◌∙◌, arith}
use Rattle.std.specs.Prelude.{All, nat_lt, slice_index}
use Rattle.std.proofs.lemmas.Bool.{cases_lt, lt-ltb, ltb-true}
use Rattle.std.proofs.lemmas.List.{get_or-drop, length-drop}
use Rattle.std.proofs.lemmas.List.Elements.{All-from_get_or, All-head, All-tail}
use Rattle.std.proofs.lemmas.List.Sums.{AllPass-from_list_all, list_all-from_AllPass}
use Rattle.table_form.specs.Running.Courses.{CourseView, tick_at}
use Rattle.table_form.specs.Promises.Fresh.{HasUpTo}
use Rattle.round_words.specs.Views.{last_of}
use Rattle.run_state.specs.Readings.{has_up_to, seen_by}

-- the test finds each event that is due
pub test_has : (course : CourseView) (count x : ℕ) → has_up_to course count x ≡ true → HasUpTo course count x
test_has course count x h = λ i lt due. elim (cases_lt i count) [
  | inl early ↦ early
  | inr late ↦
      let rest = length-drop count course.ticks in
      let passes = AllPass-from_list_all (λ tick. nat_lt x (tick + course.lag)) (drop count course.ticks) h
      (i - count) 0 (omega arith) in
      let is : slice_index (drop count course.ticks) (i - count) ≡ tick_at course i =
      get_or-drop count course.ticks (i - count) 0 ∙ ap (slice_index course.ticks) (omega arith) in
      let later = ltb-true x (slice_index (drop count course.ticks) (i - count) + course.lag) passes in
      absurd (omega (arith, is, later))
]

-- the test passes where there is no event that is due and unseen
pub has_test : (course : CourseView) (count x : ℕ) → HasUpTo course count x → has_up_to course count x ≡ true
has_test course count x has =
    list_all-from_AllPass (λ tick. nat_lt x (tick + course.lag)) (drop count course.ticks)
    (All-from_get_or (λ tick. nat_lt x (tick + course.lag) ≡ true) (drop count course.ticks) 0
    (λ k lt. later k lt))
  where
    later : (k : ℕ) → k < length (drop count course.ticks)
        → nat_lt x (slice_index (drop count course.ticks) k + course.lag) ≡ true
    later k lt = elim (cases_lt x (slice_index (drop count course.ticks) k + course.lag)) [
      | inl after ↦ lt-ltb x (slice_index (drop count course.ticks) k + course.lag) after
      | inr due ↦
          let rest = length-drop count course.ticks in
          let is : slice_index (drop count course.ticks) k ≡ tick_at course (count + k) =
          get_or-drop count course.ticks k 0 in
          let early = has (count + k) (omega arith) (omega arith) in
          absurd (omega arith)
    ]

-- what all sights pass the last one does
pub last_passes : (P : ℕ → Type 0) (sights : List ℕ) → 0 < length sights → All P sights → P (last_of sights)
last_passes P [] some all = absurd (omega arith)
last_passes P (n ∷ []) some all = All-head P n [] all
last_passes P (n ∷ m ∷ ns) some all = last_passes P (m ∷ ns) (omega arith) (All-tail P n (m ∷ ns) all)

-- for `seen_last`: an answer that may be there
some_if : (b : Bool) (m n : ℕ) → cond b (Some m) None ≡ Some n → (b ≡ true) × (m ≡ n)
some_if true m n h = (refl, cc)
some_if false m n h = absurd cc

-- what a core has seen is its last sight, and has each event that is due
pub seen_last : (course : CourseView) (clock n : ℕ) (sights : List ℕ) → seen_by course clock sights ≡ Some n
    → (0 < length sights) × (last_of sights ≡ n) × HasUpTo course n clock
seen_last course clock n [] h = absurd cc
seen_last course clock n (k ∷ ks) h =
    let found = some_if (has_up_to course (last_of (k ∷ ks)) clock) (last_of (k ∷ ks)) n h in
    let has = test_has course (last_of (k ∷ ks)) clock found.0 in
    (omega arith, found.1, subst (λ (m : ℕ). HasUpTo course m clock) found.1 has)

-- a last sight that has each event that is due is what the core has seen
pub last_seen : (course : CourseView) (clock n : ℕ) (sights : List ℕ)
    → (0 < length sights) × (last_of sights ≡ n) × HasUpTo course n clock
    → seen_by course clock sights ≡ Some n
last_seen course clock n [] h = absurd (omega (arith, h.0))
last_seen course clock n (k ∷ ks) h =
    let has = has_test course (last_of (k ∷ ks)) clock
    (subst (λ (m : ℕ). HasUpTo course m clock) (sym h.1) h.2) in
    ap (λ (b : Bool). cond b (Some (last_of (k ∷ ks))) None) has ∙ ap (λ (m : ℕ). Some m) h.1
