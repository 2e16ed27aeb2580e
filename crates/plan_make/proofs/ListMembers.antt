-- Elements of lists, by their places.
use Rattle.std.proofs.Common.{◌≡◌, ℕ, zero, suc, ◌<◌, ◌⊎◌, List, [], ◌∷◌, length, get_or, slice_get, Some, refl, ap, subst, ◌∙◌, inl, inr, arith}
use Rattle.std.specs.List.{All, Contains}
use Rattle.std.proofs.lemmas.Option.{get_or_from_slice_get, slice_get-get_or, slice_get_within}

-- what holds of each element holds of that at a place
pub all_at : {X : Type 0} (P : X → Type 0) (xs : List X) (i : ℕ) (x : X) → All P xs
    → slice_get xs i ≡ Some x → P x
all_at P xs i x all at = subst P (get_or_from_slice_get xs i x x at) (all i x (slice_get_within xs i x at))

-- the other way: what holds at each place holds of each element
pub all_from_places : {X : Type 0} (P : X → Type 0) (xs : List X)
    → ((i : ℕ) (x : X) → slice_get xs i ≡ Some x → P x)
    → All P xs
all_from_places P xs each k d lt = each k (get_or xs k d) (slice_get-get_or xs k d lt)

-- membership, with an element before the others
pub contains_first : {X : Type 0} (x : X) (xs : List X) → Contains (x ∷ xs) x
contains_first x xs = (0, omega arith, refl)

-- who is left over after the next is left over
pub contains_later : {X : Type 0} (y : X) (xs : List X) (x : X) → Contains xs x → Contains (y ∷ xs) x
contains_later y xs x found = (suc found.0, omega (arith, found.1), found.2)

-- who is left over is the next or after it
pub contains_cases : {X : Type 0} (y : X) (xs : List X) (x : X) → Contains (y ∷ xs) x
    → (y ≡ x) ⊎ Contains xs x
contains_cases {X = X} y xs x found = by_place found.0 found.1 found.2
  where
    by_place : (k : ℕ) → k < length (y ∷ xs) → get_or (y ∷ xs) k x ≡ x → (y ≡ x) ⊎ Contains xs x
    by_place zero lt is = inl is
    by_place (suc k) lt is = inr (k, omega arith, is)

-- from a place to membership
pub contains_from_slice_get : {X : Type 0} (xs : List X) (i : ℕ) (x : X) → slice_get xs i ≡ Some x
    → Contains xs x
contains_from_slice_get xs i x at = (i, slice_get_within xs i x at, get_or_from_slice_get xs i x x at)

-- from membership to a place
pub slice_get_from_contains : {X : Type 0} (xs : List X) (x : X) → Contains xs x
    → (i : ℕ) × (slice_get xs i ≡ Some x)
slice_get_from_contains xs x found = (found.0, slice_get-get_or xs found.0 x found.1 ∙ ap Some found.2)

-- nobody is left over in an empty list
pub contains_none : {X : Type 0} (x : X) → Contains [] x → ⊥
contains_none x found = absurd (omega (arith, found.1))
