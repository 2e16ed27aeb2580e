-- Rows of places in one list.
use Rattle.std.proofs.Common.{◌≡◌, ◌≢◌, ℕ, ◌+◌, ◌*◌, ◌/◌, ◌<◌, ◌≤◌, ◌∙◌, ap, sym, ◌==◌, ◌&&◌, ◌||◌, Bool, true, false, refl, arith, List, length, get_or, set, get_or-set_other, get_or-set_same, ◌⊎◌, inl, inr, subst}
use Rattle.std.proofs.lemmas.Nat.{div-mul-add}
use Rattle.std.proofs.lemmas.Bool.Decides.{nat_tests}

-- places of two rows are one only where the rows are and the places are
pub one_place : (width v w x y : ℕ) → x < width → y < width → v * width + y ≡ w * width + x → (v ≡ w) × (y ≡ x)
one_place width v w x y low high same =
    let row : v ≡ w =
    sym (div-mul-add v width y high) ∙ (ap (λ n. n / width) same ∙ div-mul-add w width x low) in
    (row, omega (arith, subst (λ k. k * width + y ≡ w * width + x) row same))

-- two places are the same or not
apart : (a b : ℕ) → (a ≡ b) ⊎ (a ≢ b)
apart a b = grind arith

-- a row that has one place put
pub put_there : (width v w x y : ℕ) (grid : List Bool) (own : Bool)
    → x < width → y < width → w * width + x < length grid → own ≡ (v == w)
    → get_or (set grid (w * width + x) true) (v * width + y) false
    ≡ (get_or grid (v * width + y) false || (own && (x == y)))
put_there width v w x y grid own low high within is_own =
    rw is_own (elim (apart (v * width + y) (w * width + x)) [
      | inl same ↦
          let both = one_place width v w x y low high same in
          let there : get_or (set grid (w * width + x) true) (v * width + y) false ≡ true =
          ap (λ k. get_or (set grid (w * width + x) true) k false) same
          ∙ get_or-set_same grid (w * width + x) true false within in
          there ∙ holds (get_or grid (v * width + y) false) v w x y both.0 both.1
      | inr other ↦
          get_or-set_other grid (w * width + x) (v * width + y) true false other
          ∙ fails width (get_or grid (v * width + y) false) v w x y other
    ])
  where
    holds : (old : Bool) (v w x y : ℕ) → v ≡ w → y ≡ x → true ≡ (old || ((v == w) && (x == y)))
    holds true v w x y row place = refl
    holds false v w x y row place = grind (arith, nat_tests)

    fails : (width : ℕ) (old : Bool) (v w x y : ℕ) → v * width + y ≢ w * width + x
        → old ≡ (old || ((v == w) && (x == y)))
    fails width true v w x y other = refl
    fails width false v w x y other = elim (apart v w) [
      | inl row ↦
          let place : y ≢ x = λ e. other (ap (λ k. k * width + y) row ∙ ap (λ k. w * width + k) e) in
          grind (arith, nat_tests)
      | inr row ↦ grind (arith, nat_tests)
    ]

-- a vCPU that has no row puts nothing
pub none_put : (old own more : Bool) (v w count : ℕ) → v < count → count ≤ w → own ≡ (v == w)
    → old ≡ (old || (own && more))
none_put true own more v w count low high is = refl
none_put false own more v w count low high is =
    let no : own ≡ false = is ∙ grind (arith, nat_tests) in rw no refl
