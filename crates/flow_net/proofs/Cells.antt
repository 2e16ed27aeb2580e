-- What a write leaves at each place.
use Rattle.std.proofs.Common.{◌≡◌, ℕ, ◌+◌, ◌<◌, ◌≤◌, List, [], ◌∷◌, ◌++◌, length, get_or, set, length-set, ap, sym, ◌∙◌, arith, inl, inr}
use Rattle.std.proofs.lemmas.Bool.{cases_eq}
use Rattle.std.proofs.lemmas.List.{get_or-set_same, get_or-set_other, get_or_past, get_or_append_left}
use Rattle.std.proofs.Math.Seq.{get_or-append_seam}
use Rattle.flow_net.specs.Rows.{row_at, ticks_at, with_ticks, IsPlace}

-- the row that was written to
pub row-with_here : (rows : List (List ℕ)) (i p n : ℕ) → i < length rows
    → row_at (with_ticks rows i p n) i ≡ set (row_at rows i) p n
row-with_here rows i p n h = get_or-set_same rows i (set (row_at rows i) p n) [] h

-- a write leaves the other rows
pub row-with_else : (rows : List (List ℕ)) (i p n j : ℕ) → (j ≡ i → ⊥)
    → row_at (with_ticks rows i p n) j ≡ row_at rows j
row-with_else rows i p n j ne = get_or-set_other rows i j (set (row_at rows i) p n) [] ne

-- the place that was written
pub ticks-with_here : (rows : List (List ℕ)) (i p n : ℕ) → IsPlace rows i p
    → ticks_at (with_ticks rows i p n) i p ≡ n
unfolding ticks_at
ticks-with_here rows i p n at = ap (λ r. get_or r p 0) (row-with_here rows i p n at.row)
    ∙ get_or-set_same (row_at rows i) p n 0 at.within

-- a write leaves the other places
pub ticks-with_else : (rows : List (List ℕ)) (i p n j q : ℕ) → IsPlace rows i p → (j ≡ i → q ≡ p → ⊥)
    → ticks_at (with_ticks rows i p n) j q ≡ ticks_at rows j q
unfolding ticks_at
ticks-with_else rows i p n j q at ne = elim (cases_eq j i) [
  | inl e ↦ ap (λ m. get_or (row_at (with_ticks rows i p n) m) q 0) e
      ∙ ap (λ r. get_or r q 0) (row-with_here rows i p n at.row)
      ∙ get_or-set_other (row_at rows i) p q n 0 (ne e)
      ∙ ap (λ m. get_or (row_at rows m) q 0) (sym e)
  | inr other ↦ ap (λ r. get_or r q 0) (row-with_else rows i p n j other)
]

-- a write leaves the count of rows
pub length-with : (rows : List (List ℕ)) (i p n : ℕ) → length (with_ticks rows i p n) ≡ length rows
length-with rows i p n = length-set rows i (set (row_at rows i) p n)

-- a write leaves the lengths of rows
pub length-row-with : (rows : List (List ℕ)) (i p n j : ℕ) → IsPlace rows i p
    → length (row_at (with_ticks rows i p n) j) ≡ length (row_at rows j)
length-row-with rows i p n j at = elim (cases_eq j i) [
  | inl e ↦ ap (λ m. length (row_at (with_ticks rows i p n) m)) e
      ∙ ap (λ r. length r) (row-with_here rows i p n at.row)
      ∙ length-set (row_at rows i) p n ∙ ap (λ m. length (row_at rows m)) (sym e)
  | inr other ↦ ap (λ r. length r) (row-with_else rows i p n j other)
]

-- a row in place of another
pub row-set_here : (rows : List (List ℕ)) (i : ℕ) (row : List ℕ) → i < length rows
    → row_at (set rows i row) i ≡ row
row-set_here rows i row h = get_or-set_same rows i row [] h

-- the other rows stay
pub row-set_else : (rows : List (List ℕ)) (i j : ℕ) (row : List ℕ) → (j ≡ i → ⊥)
    → row_at (set rows i row) j ≡ row_at rows j
row-set_else rows i j row ne = get_or-set_other rows i j row [] ne

-- beyond the last row there is nothing
pub ticks_beyond : (rows : List (List ℕ)) (i p : ℕ) → length rows ≤ i → ticks_at rows i p ≡ 0
unfolding ticks_at
ticks_beyond rows i p h = ap (λ r. get_or r p 0) (get_or_past rows i [] h)

-- one row more is clear
pub cleared_more : (rows : List (List ℕ)) (i : ℕ) (row : List ℕ) → i < length rows → ((p : ℕ)
    → get_or row p 0 ≡ 0)
    → ((j p : ℕ) → j < i → ticks_at rows j p ≡ 0) → (j p : ℕ) → j < i + 1 → ticks_at (set rows i row) j p ≡ 0
unfolding ticks_at
cleared_more rows i row h none old j p lt = elim (cases_eq j i) [
  | inl e ↦ ap (λ m. get_or (row_at (set rows i row) m) p 0) e
      ∙ ap (λ r. get_or r p 0) (row-set_here rows i row h) ∙ none p
  | inr ne ↦ ap (λ r. get_or r p 0) (row-set_else rows i j row ne) ∙ old j p (omega (arith, lt, ne))
]

-- a row in place of another of its length keeps the lengths
pub widths_kept : (rows : List (List ℕ)) (i j : ℕ) (row : List ℕ) → i < length rows
    → length row ≡ length (row_at rows i)
    → length (row_at (set rows i row) j) ≡ length (row_at rows j)
widths_kept rows i j row h same = elim (cases_eq j i) [
  | inl e ↦ ap (λ m. length (row_at (set rows i row) m)) e
      ∙ ap (λ r. length r) (row-set_here rows i row h) ∙ same ∙ ap (λ m. length (row_at rows m)) (sym e)
  | inr ne ↦ ap (λ r. length r) (row-set_else rows i j row ne)
]

-- one more row at the end
pub row-push_here : (rows : List (List ℕ)) (row : List ℕ) (i : ℕ) → i ≡ length rows
    → row_at (rows ++ row ∷ []) i ≡ row
row-push_here rows row i e = ap (λ n. row_at (rows ++ row ∷ []) n) e ∙ get_or-append_seam rows row [] []

-- the rows before a pushed one
pub row-push_else : (rows : List (List ℕ)) (row : List ℕ) (i : ℕ) → i < length rows
    → row_at (rows ++ row ∷ []) i ≡ row_at rows i
row-push_else rows row i h = get_or_append_left rows (row ∷ []) [] i h

-- the places of a pushed row
pub ticks-push_here : (rows : List (List ℕ)) (row : List ℕ) (i p : ℕ) → i ≡ length rows
    → ticks_at (rows ++ row ∷ []) i p ≡ get_or row p 0
unfolding ticks_at
ticks-push_here rows row i p e = ap (λ r. get_or r p 0) (row-push_here rows row i e)

-- a pushed row leaves the places of the rows before it
pub ticks-push_else : (rows : List (List ℕ)) (row : List ℕ) (i p : ℕ) → i < length rows
    → ticks_at (rows ++ row ∷ []) i p ≡ ticks_at rows i p
unfolding ticks_at
ticks-push_else rows row i p h = ap (λ r. get_or r p 0) (row-push_else rows row i h)

-- a fact of each row so far, and of the new one
pub push_rows : (rows : List (List ℕ)) (row : List ℕ) (n : ℕ) (P : ℕ → List ℕ → Type 0) → length rows ≡ n
    → ((i : ℕ) → i < n → P i (row_at rows i)) → P n row → (i : ℕ) → i < n + 1
    → P i (row_at (rows ++ row ∷ []) i)
push_rows rows row n P len old new i h = elim (cases_eq i n) [
  | inl e ↦ rw (row-push_here rows row i (omega (arith, e, len))) (rw e new)
  | inr ne ↦ rw (row-push_else rows row i (omega (arith, h, ne, len))) (old i (omega (arith, h, ne)))
]
