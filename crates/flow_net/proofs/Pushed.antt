-- A list of numbers with one more at its end.
use Rattle.std.proofs.Common.{ℕ, ◌≡◌, ◌+◌, ◌<◌, List, [], ◌∷◌, ◌++◌, length, get_or, arith, inl, inr}
use Rattle.std.proofs.lemmas.Bool.{cases_eq}
use Rattle.std.proofs.lemmas.List.{get_or_append_left}
use Rattle.std.proofs.Math.Seq.{get_or-append_seam}

-- a fact of each number so far, and of the new one
pub push_numbers : (xs : List ℕ) (x n : ℕ) (P : ℕ → ℕ → Type 0) → length xs ≡ n
    → ((i : ℕ) → i < n → P i (get_or xs i 0)) → P n x → (i : ℕ) → i < n + 1
    → P i (get_or (xs ++ x ∷ []) i 0)
push_numbers xs x n P len old new i h = elim (cases_eq i n) [
  | inl e ↦ rw (e, ← len, get_or-append_seam xs x [] 0, len) new
  | inr ne ↦ rw (get_or_append_left xs (x ∷ []) 0 i (omega (arith, h, ne, len)))
      (old i (omega (arith, h, ne)))
]
