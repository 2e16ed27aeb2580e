-- The cells of the row, one more at a time.
use Rattle.std.proofs.Common.{◌≡◌, ℕ, zero, suc, ◌+◌, cond, List, [], ◌∷◌, ◌++◌, length, Option, refl, arith, length-append}
use Rattle.std.proofs.lemmas.List.Sums.{sum_by_push}
use Rattle.table_form.specs.Planning.Jobs.{Job}
use Rattle.table_form.specs.Planning.EdfRow.{cells_of, is_run_of, edf_cells, first_pending}

-- one more cell
pub cells_of-push : (j : Job) (cells : List (Option Job)) (c : Option Job)
    → cells_of j (cells ++ c ∷ []) ≡ cells_of j cells + cond (is_run_of j c) 1 0
unfolding cells_of
cells_of-push j cells c = sum_by_push (λ cell. cond (is_run_of j cell) 1 0) cells c

-- a job has none of no cells
pub cells_of-none : (j : Job) → cells_of j [] ≡ 0
unfolding cells_of
cells_of-none j = refl

-- the next cell goes to the first pending job
pub edf_cells-suc : (js : List Job) (n : ℕ)
    → edf_cells js (suc n) ≡ edf_cells js n ++ first_pending (edf_cells js n) n js ∷ []
unfolding edf_cells
edf_cells-suc js n = refl

-- there is one for each tick
pub length-edf_cells : (js : List Job) (n : ℕ) → length (edf_cells js n) ≡ n
unfolding edf_cells
length-edf_cells js zero = refl
length-edf_cells js (suc n) = omega (
  arith,
  length-edf_cells js n,
  length-append (edf_cells js n) (first_pending (edf_cells js n) n js ∷ []),
)

-- there is no cell before the first tick
pub edf_cells-zero : (js : List Job) → edf_cells js 0 ≡ []
unfolding edf_cells
edf_cells-zero js = refl
