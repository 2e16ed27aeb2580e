-- What is found by name, and segments that are compared one by one.
use Rattle.std.proofs.Common.{◌≡◌, ◌≢◌, ℕ, suc, ◌+◌, ◌∙◌, ap, sym, ◌&&◌, Bool, cond, true, false, List, [], ◌∷◌, length, refl, add-one, Option, Some, None, ◌⊎◌, inl, inr}
use Rattle.std.specs.Str.{bytes_eq}
use Rattle.vcpu_names.specs.Names.{name_at}
use Rattle.view_doc.specs.declared.view.Stretch.{Stretch}
use Rattle.view_table.specs.Diff.{number_of, same_slot, same_slots}

-- before the first name none is found
pub number_of-zero : (names : List (List ℕ)) (name : List ℕ) → number_of names 0 name ≡ None
unfolding number_of
number_of-zero names name = refl

-- with one more name
pub number_of-more : (names : List (List ℕ)) (v : ℕ) (name : List ℕ)
    → number_of names (v + 1) name ≡ cond (bytes_eq (name_at names v) name) (Some v) (number_of names v name)
unfolding number_of
number_of-more names v name = ap (λ n. number_of names n name) (add-one v)

-- with one more name the number is as a loop has it
pub number_step : (names : List (List ℕ)) (v : ℕ) (name : List ℕ) (b : Bool) (found old : Option ℕ)
    → b ≡ bytes_eq (name_at names v) name → old ≡ number_of names v name
    → ((b ≡ true) × (found ≡ Some v)) ⊎ ((b ≡ false) × (found ≡ old)) → found ≡ number_of names (v + 1) name
number_step names v name b found old is before (inl h) =
    h.1 ∙ sym (number_of-more names v name ∙ ap (λ t. cond t (Some v) (number_of names v name)) (sym is ∙ h.0))
number_step names v name b found old is before (inr h) =
    h.1 ∙ (before
    ∙ sym (number_of-more names v name ∙ ap (λ t. cond t (Some v) (number_of names v name)) (sym is ∙ h.0)))

-- lists of unlike lengths are unlike
pub same_slots-lengths : (names others : List (List ℕ)) (ss ts : List Stretch) → length ss ≢ length ts
    → same_slots names others ss ts ≡ false
same_slots-lengths names others [] [] unlike = absurd (unlike refl)
same_slots-lengths names others [] (t ∷ ts) unlike = refl
same_slots-lengths names others (s ∷ ss) [] unlike = refl
same_slots-lengths names others (s ∷ ss) (t ∷ ts) unlike =
    ap (λ b. same_slot names others s t && b)
    (same_slots-lengths names others ss ts (λ e. unlike (ap suc e)))
    ∙ and_false (same_slot names others s t)
  where
    and_false : (b : Bool) → (b && false) ≡ false
    and_false true = refl
    and_false false = refl
