-- Lists that grow at their end, read by index.
use Rattle.std.proofs.Common.{◌≡◌, ℕ, zero, suc, List, [], ◌∷◌, Some}
use Rattle.std.specs.Prelude.{slice_get, slice_index, slice_index_or}
use Rattle.tab_core.proofs.Lists.{same}

-- a number read by index is the one at the place
pub index_is : (xs : List ℕ) (k x : ℕ) → slice_get xs k ≡ Some x → slice_index xs k ≡ x
index_is [] k x at = absurd cc
index_is (z ∷ zs) zero x at = cc
index_is (z ∷ zs) (suc k) x at = index_is zs k x at

-- an element read by index is the one at the place
pub index_or_is : {X : Type 0} (xs : List X) (k : ℕ) (x d : X) → slice_get xs k ≡ Some x
    → slice_index_or xs k d ≡ x
index_or_is [] k x d at = absurd cc
index_or_is (z ∷ zs) zero x d at = cc
index_or_is (z ∷ zs) (suc k) x d at = index_or_is zs k x d at
