-- Cells that have a vCPU, and places that some row has for it.
use Rattle.std.proofs.Common.{◌≡◌, ℕ, zero, suc, Bool, true, false, List, [], ◌∷◌, Option, Some, None, refl, ap, sym}
use Rattle.std.specs.Prelude.{slice_get, ◌||◌}
use Rattle.std.proofs.lemmas.Bool.{eq-eqb, eqb-true, or_left, or_right}
use Rattle.table_form.specs.Promises.Offered.{some_row_has}
use Rattle.table_form.specs.Tables.Rows.{Row}
use Rattle.table_form.specs.Tables.Serves.{flat, is_cell_of, owner_at}

-- a cell that has the vCPU names it
pub cell_is : (v : ℕ) (o : Option ℕ) → is_cell_of v o ≡ true → o ≡ Some v
cell_is v None h = absurd cc
cell_is v (Some w) h = ap Some (sym (eqb-true v w h))

-- a row that has the vCPU is one of some
pub row_has : (rows : List Row) (v place c : ℕ) → owner_at rows c place ≡ Some v
    → some_row_has rows v place ≡ true
row_has [] v place c h = absurd cc
row_has (row ∷ rows) v place zero h =
    let is : is_cell_of v (flat (slice_get row place)) ≡ true = rw h (eq-eqb v v refl) in
    or_left (is_cell_of v (flat (slice_get row place))) (some_row_has rows v place) is
row_has (row ∷ rows) v place (suc c) h =
    or_right (is_cell_of v (flat (slice_get row place))) (some_row_has rows v place)
    (row_has rows v place c h)

-- where some row has the vCPU at a place one does
pub has_row : (rows : List Row) (v place : ℕ) → some_row_has rows v place ≡ true
    → (c : ℕ) × (owner_at rows c place ≡ Some v)
has_row [] v place h = absurd cc
has_row (row ∷ rows) v place h =
    by_test (is_cell_of v (flat (slice_get row place))) refl h (λ g. has_row rows v place g)
  where
    by_test : (b : Bool) → is_cell_of v (flat (slice_get row place)) ≡ b
        → (is_cell_of v (flat (slice_get row place)) || some_row_has rows v place) ≡ true
        → (some_row_has rows v place ≡ true → (c : ℕ) × (owner_at rows c place ≡ Some v))
        → (c : ℕ) × (owner_at (row ∷ rows) c place ≡ Some v)
    by_test true is g rest = (0, cell_is v (flat (slice_get row place)) is)
    by_test false is g rest = (let found = rest (rw is at g) in (suc found.0, found.1))
