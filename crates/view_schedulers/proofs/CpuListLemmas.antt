-- Parts of a list of CPUs, and CPUs that are there twice.
use Rattle.std.proofs.Common.{◌≡◌, ℕ, ◌+◌, ◌-◌, ◌*◌, ◌/◌, ◌<◌, ◌≤◌, ◌==◌, ◌⊎◌, inl, inr, true, false, Bor, List, [], ◌∷◌, ◌++◌, Option, None, Some, MatchOption, arith, ap, decimal, get_or, length, length-take-le, map, refl, subst, sym, take, ◌∙◌}
use Rattle.std.specs.Prelude.{slice_get}
use Rattle.std.specs.List.{range_with_len}
use Rattle.std.proofs.lemmas.Bool.{cases_lt, eqb-false, eqb-true}
use Rattle.std.proofs.lemmas.List.{get_or-take}
use Rattle.std.proofs.lemmas.Option.{get_or_from_slice_get, slice_get-get_or}
use Rattle.view_schedulers.specs.CpuLists.{AreDistinct, IsPart, One, Range, Strided, cpus_from}

-- one CPU is the CPUs from it up to itself
pub one_cpu : (cpu : ℕ) → cpus_from cpu cpu 1 ≡ cpu ∷ []
one_cpu cpu =
    let one : (cpu - cpu) / 1 + 1 ≡ 1 = omega arith in
    let same : cpu + 0 * 1 ≡ cpu = omega arith in
    rw one (ap (λ n. n ∷ []) same)

-- two numbers with a dash between them, and a step or none
pub part_is : (ends word text : List ℕ) (first last step : ℕ) (more : Option (Bor (List ℕ)))
    → MatchOption more (ends ≡ word) (λ (rest : Bor (List ℕ)). ends ≡ word ++ 58 ∷ rest.now) → word ≡ decimal last
    → MatchOption more (step ≡ 1) (λ (rest : Bor (List ℕ)). rest.now ≡ decimal step) → first ≤ last → 1 ≤ step
    → text ≡ decimal first ++ 45 ∷ ends → IsPart text (cpus_from first last step)
part_is ends word text first last step None split two number order some is =
    Range first last order (is ∙ ap (λ xs. decimal first ++ 45 ∷ xs) (split ∙ two)) (ap (cpus_from first last) number)
part_is ends word text first last step (Some rest) split two number order some is =
    Strided first last step order some
    (is ∙ ap (λ xs. decimal first ++ 45 ∷ xs)
    (split ∙ (ap (λ xs. xs ++ 58 ∷ rest.now) two ∙ ap (λ xs. decimal last ++ 58 ∷ xs) number))) refl

-- a CPU that is there before isn't there once
pub twice_there : (cpus : List ℕ) (at x cpu : ℕ) → at < length cpus → cpu ≡ get_or cpus at 0 → x < length (take at cpus)
    → (get_or (take at cpus) x 0 == cpu) ≡ true → AreDistinct cpus → ⊥
twice_there cpus at x cpu low is early found distinct =
    let size : length (take at cpus) ≡ at = length-take-le at cpus (omega arith) in
    let before : x < at = omega (arith, size, early) in
    let here : slice_get cpus at ≡ Some cpu = slice_get-get_or cpus at 0 low ∙ ap Some (sym is) in
    let equal : get_or cpus x 0 ≡ cpu =
    sym (get_or-take at cpus x 0 before) ∙ eqb-true (get_or (take at cpus) x 0) cpu found in
    let there : slice_get cpus x ≡ Some cpu = slice_get-get_or cpus x 0 (omega arith) ∙ ap Some equal in
    let one : x ≡ at = distinct x at cpu there here in
    absurd (omega arith)

-- a CPU that isn't there before
not_before : (cpus : List ℕ) (at cpu : ℕ) → at < length cpus → cpu ≡ get_or cpus at 0
    → ((k d : ℕ) → 0 ≤ k → k < length (take at cpus) → (get_or (take at cpus) k d == cpu) ≡ false)
    → (k found : ℕ) → k < at → slice_get cpus k ≡ Some found → slice_get cpus at ≡ Some found → ⊥
not_before cpus at cpu low is others k found before there here =
    let size : length (take at cpus) ≡ at = length-take-le at cpus (omega arith) in
    let one : get_or cpus at 0 ≡ found = get_or_from_slice_get cpus at found 0 here in
    let two : get_or cpus k 0 ≡ found = get_or_from_slice_get cpus k found 0 there in
    let front : get_or (take at cpus) k 0 ≡ get_or cpus k 0 = get_or-take at cpus k 0 before in
    let equal : get_or (take at cpus) k 0 ≡ cpu = front ∙ (two ∙ (sym one ∙ sym is)) in
    let other = others k 0 (omega arith) (omega (arith, size, before)) in
    eqb-false (get_or (take at cpus) k 0) cpu other equal

-- one CPU more that isn't there before
pub distinct_more : (cpus : List ℕ) (at cpu : ℕ) → at < length cpus → cpu ≡ get_or cpus at 0
    → ((k d : ℕ) → 0 ≤ k → k < length (take at cpus) → (get_or (take at cpus) k d == cpu) ≡ false)
    → ((j k found : ℕ) → j < at → k < at → slice_get cpus j ≡ Some found → slice_get cpus k ≡ Some found → j ≡ k)
    → (j k found : ℕ) → j < at + 1 → k < at + 1 → slice_get cpus j ≡ Some found → slice_get cpus k ≡ Some found → j ≡ k
distinct_more cpus at cpu low is others distinct j k found one two here there = elim (cases_lt j at) [
  | inl j_low ↦ elim (cases_lt k at) [
    | inl k_low ↦ distinct j k found j_low k_low here there
    | inr k_high ↦
        let k_is : k ≡ at = omega arith in
        absurd (not_before cpus at cpu low is others j found j_low here
        (subst (λ n. slice_get cpus n ≡ Some found) k_is there))
  ]
  | inr j_high ↦ elim (cases_lt k at) [
    | inl k_low ↦
        let j_is : j ≡ at = omega arith in
        absurd (not_before cpus at cpu low is others k found k_low there
        (subst (λ n. slice_get cpus n ≡ Some found) j_is here))
    | inr k_high ↦ omega arith
  ]
]
