-- The rows that are made of the pieces on each core.
use Rattle.std.specs.Prelude.{◌≡◌, ℕ, List, All, Some, length, slice_get}
use Rattle.tab_core.specs.declared.piece.Piece.{Piece}
use Rattle.table_form.specs.Tables.Rows.{Row}
use Rattle.table_form.specs.Planning.EdfRow.{edf_row}
use Rattle.table_form.specs.Planning.Jobs.{jobs_of}
use Rattle.table_form.specs.Planning.Windows.{DistinctVcpus, KeepsToWindows, ServesWindows}
use Rattle.cd_split.specs.Cores.{pieces_on}

-- the row is by earliest deadline first, of pieces of that core, and serves them
pub record IsRowOf (core : ℕ) (pieces : List Piece) (row : Row) : Type 0 where
  pub own : All (λ p. p.core ≡ core) pieces
  pub distinct : DistinctVcpus pieces
  pub edf : row ≡ edf_row (jobs_of pieces)
  pub serves : ServesWindows pieces row
  pub inside : KeepsToWindows pieces row

-- the rows are of these pieces, core by core
pub record AreRowsOf (cores : List (List Piece)) (rows : List Row) : Type 0 where
  pub size : length rows ≡ length cores
  pub own : (core : ℕ) → All (λ p. p.core ≡ core) (pieces_on cores core)
  pub distinct : (core : ℕ) → DistinctVcpus (pieces_on cores core)
  pub serve : (core : ℕ) (row : Row) → slice_get rows core ≡ Some row
      → ServesWindows (pieces_on cores core) row
  pub inside : (core : ℕ) (row : Row) → slice_get rows core ≡ Some row
      → KeepsToWindows (pieces_on cores core) row
