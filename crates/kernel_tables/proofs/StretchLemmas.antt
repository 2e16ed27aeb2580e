-- Where a vCPU is, row by row.
use Rattle.std.proofs.Common.{◌≡◌, ◌≢◌, ℕ, zero, suc, ◌+◌, ◌<◌, ◌≤◌, List, [], ◌∷◌, Some, arith, get_or, inl, inr, length, min, subst, sym}
use Rattle.std.specs.Prelude.{slice_get}
use Rattle.std.proofs.lemmas.Bool.{cases_lt}
use Rattle.table_form.specs.Tables.Rows.{Row}
use Rattle.table_form.specs.Tables.Serves.{owner_at}
use Rattle.table_form.proofs.SpotLemmas.{flat_some}

-- the owner of a place is what the row says of it
pub cell_of_owner : (rows : List Row) (c place : ℕ) (row : Row) (v : ℕ) → c < length rows → row ≡ get_or rows c row
    → owner_at rows c place ≡ Some v → slice_get row place ≡ Some (Some v)
cell_of_owner [] c place row v lt is owns = absurd (omega arith)
cell_of_owner (r ∷ rows) zero place row v lt is owns =
    subst (λ (t : Row). slice_get t place ≡ Some (Some v)) (sym is) (flat_some (slice_get r place) v owns)
cell_of_owner (r ∷ rows) (suc c) place row v lt is owns = cell_of_owner rows c place row v (omega arith) is owns

-- nobody up to a row, and nobody in that
pub none_more : (rows : List Row) (n v place end more : ℕ) (row : Row) → n < length rows → row ≡ get_or rows n row
    → ((d x : ℕ) → d < n → place ≤ x → x < end → owner_at rows d x ≢ Some v)
    → ((x : ℕ) → place ≤ x → x < more → slice_get row x ≢ Some (Some v))
    → (d x : ℕ) → d < n + 1 → place ≤ x → x < min end more → owner_at rows d x ≢ Some v
none_more rows n v place end more row lt is before here d x low le less owns = elim (cases_lt d n) [
  | inl first ↦ before d x first le (omega (arith, less)) owns
  | inr last ↦
      let same : d ≡ n = omega (arith, last, low) in
      here x le (omega (arith, less)) (cell_of_owner rows n x row v lt is
      (subst (λ (e : ℕ). owner_at rows e x ≡ Some v) same owns))
]
