-- What joining takes: the pieces of each vCPU, and rows that keep to their windows.
-- Source: the subtasks of a split task, with windows that follow one another, in A. Burns, R. I.
-- Davis, P. Wang, F. Zhang, "Partitioned EDF scheduling for multiprocessors using a C=D task
-- splitting scheme", Real-Time Systems 48, 2012.
use Rattle.std.specs.Prelude.{◌≡◌, ℕ, ◌%◌, ◌<◌, ◌==◌, ◌&&◌, Bool, true, if◌then◌else◌, nat_le, nat_lt, List, Option, None, Some, filter, length, slice_get, sum_by}
use Rattle.std.specs.List.{list_any}
use Rattle.tab_core.specs.declared.periodic.Periodic.{Periodic}
use Rattle.tab_core.specs.declared.piece.Piece.{Piece}
use Rattle.table_form.specs.Tables.Homes.{HaveHomes}
use Rattle.table_form.specs.Tables.Rows.{Row}
use Rattle.table_form.specs.Tables.Serves.{owner_at}
use Rattle.table_form.specs.Planning.Windows.{ServesWindows}

-- the pieces of one core, in their order
abbrev pub pieces_at : List Piece → ℕ → List Piece
pieces_at pieces core = filter (λ p. p.core == core) pieces

-- each window of each piece has exactly the piece's cost of cells in the row of its core
abbrev pub ServeWindows : List Piece → List Row → Type 0
ServeWindows pieces rows = (core : ℕ) (row : Row) → slice_get rows core ≡ Some row
    → ServesWindows (pieces_at pieces core) row

-- the piece is the vCPU's, and its window in the period that holds the tick holds the tick
abbrev pub has_in_window : ℕ → ℕ → Piece → Bool
has_in_window vcpu tick p = (p.vcpu == vcpu) && nat_le p.from (tick % p.period)
    && nat_lt (tick % p.period) p.to

-- each cell that isn't idle is inside a window of its vCPU's piece on the core
abbrev pub KeepInWindows : List Piece → List Row → Type 0
KeepInWindows pieces rows = (vcpu tick core : ℕ) → owner_at rows core tick ≡ Some vcpu
    → list_any (has_in_window vcpu tick) (pieces_at pieces core) ≡ true

-- the period of a task that may be missing
abbrev pub period_in : Option (Option Periodic) → Option ℕ
period_in None = None
period_in (Some None) = None
period_in (Some (Some task)) = Some task.period

-- each piece is of an admitted vCPU and has its period
abbrev pub HavePeriods : List (Option Periodic) → List Piece → Type 0
HavePeriods tasks pieces = (i : ℕ) (p : Piece) → slice_get pieces i ≡ Some p
    → period_in (slice_get tasks p.vcpu) ≡ Some p.period

-- what a vCPU gets of these pieces in each of its periods, in ticks
unfoldable pub cost_on : ℕ → List Piece → ℕ
cost_on vcpu pieces = sum_by (λ p. if p.vcpu == vcpu then p.cost else 0) pieces

-- the pieces of each admitted vCPU cost together what its task does
abbrev pub HaveCosts : List (Option Periodic) → List Piece → Type 0
HaveCosts tasks pieces = (vcpu : ℕ) (task : Periodic) → slice_get tasks vcpu ≡ Some (Some task)
    → cost_on vcpu pieces ≡ task.cost

-- no two pieces of one vCPU are on one core
abbrev pub HaveOwnCores : List Piece → Type 0
HaveOwnCores pieces = (i j : ℕ) (p q : Piece) → slice_get pieces i ≡ Some p → slice_get pieces j ≡ Some q
    → p.vcpu ≡ q.vcpu → p.core ≡ q.core → i ≡ j

-- no two pieces of one vCPU have windows that meet
abbrev pub HaveOwnWindows : List Piece → Type 0
HaveOwnWindows pieces = (i j : ℕ) (p q : Piece) → slice_get pieces i ≡ Some p → slice_get pieces j ≡ Some q
    → p.vcpu ≡ q.vcpu → p.from < q.to → q.from < p.to → i ≡ j

-- each piece is on a core that has a row
abbrev pub StandOnRows : List Piece → List Row → Type 0
StandOnRows pieces rows = (i : ℕ) (p : Piece) → slice_get pieces i ≡ Some p → p.core < length rows

-- the piece is of this vCPU and of this core
abbrev pub is_piece_on : ℕ → ℕ → Piece → Bool
is_piece_on vcpu core p = (p.vcpu == vcpu) && (p.core == core)

-- each home is the core of a piece of its vCPU
abbrev pub AreOnPieces : List (Option ℕ) → List Piece → Type 0
AreOnPieces homes pieces = (vcpu core : ℕ) → slice_get homes vcpu ≡ Some (Some core)
    → list_any (is_piece_on vcpu core) pieces ≡ true

-- what each draft keeps
pub record IsDraft (tasks : List (Option Periodic)) (pieces : List Piece) (homes : List (Option ℕ))
    (rows : List Row) : Type 0 where
  pub serves : ServeWindows pieces rows
  pub inside : KeepInWindows pieces rows
  pub periods : HavePeriods tasks pieces
  pub costs : HaveCosts tasks pieces
  pub own_cores : HaveOwnCores pieces
  pub own_windows : HaveOwnWindows pieces
  pub on_rows : StandOnRows pieces rows
  pub housed : HaveHomes tasks homes rows
  pub at_home : AreOnPieces homes pieces
