-- Rows of ticks: for each interval the ticks of each vCPU, or for each vCPU what its jobs still
-- need.
use Rattle.std.specs.Prelude.{ℕ, ◌<◌, List, [], slice_index, slice_index_or, slice_set, length}

-- a row; empty where there is none
abbrev pub row_at : List (List ℕ) → ℕ → List ℕ
row_at rows i = slice_index_or rows i []

-- the number at a place of a row; 0 where there is none
unfoldable pub ticks_at : List (List ℕ) → ℕ → ℕ → ℕ
ticks_at rows i place = slice_index (row_at rows i) place

-- the rows with another number there
abbrev pub with_ticks : List (List ℕ) → ℕ → ℕ → ℕ → List (List ℕ)
with_ticks rows i place n = slice_set rows i (slice_set (row_at rows i) place n)

-- the rows have a row i, and it has this place
pub record IsPlace (rows : List (List ℕ)) (i place : ℕ) : Type 0 where
  pub row : i < length rows
  pub within : place < length (row_at rows i)
