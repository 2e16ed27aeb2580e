-- Pieces on one core, and how a row keeps to their windows.
use Rattle.std.specs.Prelude.{◌≡◌, ℕ, ◌+◌, ◌*◌, ◌/◌, ◌<◌, ◌≤◌, List, Some, slice_get}
use Rattle.tab_core.specs.declared.TheConstants.{ROUND}
use Rattle.tab_core.specs.declared.piece.Piece.{Piece}
use Rattle.table_form.specs.Tables.Rows.{Row}
use Rattle.table_form.specs.Tables.Serves.{cells_within}

-- no two pieces are of one vCPU
abbrev pub DistinctVcpus : List Piece → Type 0
DistinctVcpus pieces = (i j : ℕ) (a b : Piece) → slice_get pieces i ≡ Some a → slice_get pieces j ≡ Some b
    → a.vcpu ≡ b.vcpu → i ≡ j

-- each window of each piece has exactly the piece's cost of cells
abbrev pub ServesWindows : List Piece → Row → Type 0
ServesWindows pieces row = (i k : ℕ) (p : Piece) → slice_get pieces i ≡ Some p → k < ROUND / p.period →
    cells_within p.vcpu row (k * p.period + p.from) (k * p.period + p.to) ≡ p.cost

-- the tick is inside a window of the vCPU's piece
pub record IsInWindow (pieces : List Piece) (vcpu tick : ℕ) : Type 0 where
  pub at : ℕ
  pub piece : Piece
  pub listed : slice_get pieces at ≡ Some piece
  pub owner : piece.vcpu ≡ vcpu
  pub window : ℕ
  pub in_round : window < ROUND / piece.period
  pub after_begin : window * piece.period + piece.from ≤ tick
  pub before_end : tick < window * piece.period + piece.to

-- each cell that isn't idle is inside a window of its vCPU's piece
abbrev pub KeepsToWindows : List Piece → Row → Type 0
KeepsToWindows pieces row = (vcpu tick : ℕ) → slice_get row tick ≡ Some (Some vcpu)
    → IsInWindow pieces vcpu tick
