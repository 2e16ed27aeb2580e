-- Lists read by place.
use Rattle.std.proofs.Common.{◌≡◌, ℕ, zero, suc, ◌⊎◌, inl, inr, List, [], ◌∷◌, Some, refl}
use Rattle.std.specs.Prelude.{slice_get, slice_index_or}

-- one of the list, or what stands for the missing
pub either : {X : Type 0} (xs : List X) (i : ℕ) (d : X)
    → (slice_get xs i ≡ Some (slice_index_or xs i d)) ⊎ (slice_index_or xs i d ≡ d)
either [] i d = inr refl
either (x ∷ xs) zero d = inl refl
either (x ∷ xs) (suc i) d = either xs i d
