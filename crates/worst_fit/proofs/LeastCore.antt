-- The core of least load, by what its scan finds.
use Rattle.std.proofs.Common.{◌≡◌, ℕ, zero, suc, ◌<◌, ◌≤◌, leb, List, [], ◌∷◌, length, get_or, refl, ap, ◌∙◌, inl, inr, arith}
use Rattle.std.proofs.lemmas.Bool.{cases_Bool, leb-true, leb-false, le-leb}
use Rattle.worst_fit.specs.Placement.{least_load, least_core}

-- the core is the first of least load
pub record IsFirstLeast (loads : List ℕ) (core : ℕ) : Type 0 where
  pub is_core : core < length loads
  pub least : (other : ℕ) → other < length loads → get_or loads core 0 ≤ get_or loads other 0
  pub lowest : (other : ℕ) → other < core → get_or loads core 0 < get_or loads other 0

-- the least load is that of the least core
pub least_core_has : (load : ℕ) (loads : List ℕ)
    → (least_core (load ∷ loads) < length (load ∷ loads))
    × (get_or (load ∷ loads) (least_core (load ∷ loads)) 0 ≡ least_load (load ∷ loads))
least_core_has load [] = (omega arith, refl)
least_core_has load (next ∷ loads) =
    let rest = least_core_has next loads in
    elim (cases_Bool (leb load (least_load (next ∷ loads)))) [
      | inl here ↦ (let le = leb-true _ _ here in rw here (omega arith, omega arith))
      | inr there ↦
          (let lt = leb-false _ _ there in let at = rest.1 in let in_rest = rest.0 in rw there
          (omega arith, at ∙ omega arith))
    ]

-- which the scan's facts name
pub first_least : (loads : List ℕ) (core : ℕ) → IsFirstLeast loads core
    → (core ≡ least_core loads) × (get_or loads core 0 ≡ least_load loads)
first_least [] core is = absurd (let none = is.is_core in omega arith)
first_least (load ∷ []) zero is = (refl, refl)
first_least (load ∷ []) (suc core) is = absurd (let none = is.is_core in omega arith)
first_least (load ∷ next ∷ loads) zero is =
    let has = least_core_has next loads in
    let in_rest = has.0 in
    let at = has.1 in
    let le : load ≤ get_or (next ∷ loads) (least_core (next ∷ loads)) 0 =
    is.least (suc (least_core (next ∷ loads))) (omega arith) in
    let here = le-leb load (least_load (next ∷ loads)) (omega arith) in
    rw here (refl, omega arith)
first_least (load ∷ next ∷ loads) (suc core) is =
    let within = is.is_core in
    let rest = first_least (next ∷ loads) core (record {
      is_core = omega arith;
      least = λ other lt. is.least (suc other) (omega arith);
      lowest = λ other lt. is.lowest (suc other) (omega arith);
    }) in
    let less : get_or (next ∷ loads) core 0 < load = is.lowest 0 (omega arith) in
    let same = rest.1 in
    elim (cases_Bool (leb load (least_load (next ∷ loads)))) [
      | inl here ↦ (let le = leb-true _ _ here in absurd (omega arith))
      | inr there ↦ rw there (ap suc rest.0, omega arith)
    ]
