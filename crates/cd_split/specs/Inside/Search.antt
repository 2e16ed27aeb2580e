-- What the search for a core and for a cut finds.
use Rattle.std.specs.Prelude.{◌≡◌, ◌⊎◌, ℕ, ◌<◌, ◌≤◌, List, Contains, length, slice_index_or}
use Rattle.tab_core.specs.declared.piece.Piece.{Piece}
use Rattle.table_form.specs.Planning.Jobs.{Subtask, subtask_of}
use Rattle.cd_split.specs.Cores.{pieces_on}
use Rattle.cd_split.specs.Splitting.{FitsWith, IsFirstCore, IsGreatestCut, Left, NoneDoes, TakesCut, TakesRest, cut_of, rest_of}
use Rattle.cd_split.specs.declared.left.Left as code
use Rattle.cd_split.specs.declared.order.CoreLoad.{CoreLoad}

-- what is left of the vCPU, without the facts that the code keeps of it
abbrev pub left_of : code.Left → Left
left_of left = record { vcpu = left.vcpu; period = left.period; from = left.from; rest = left.rest }

-- the piece is the subtask's, on the core
abbrev pub IsPieceOf : ℕ → Subtask → Piece → Type 0
IsPieceOf core s p = (p.core ≡ core) × (subtask_of p ≡ s)

-- no cut of so many ticks or more fits on the core
abbrev pub IsTooMuch : List (List Piece) → Left → ℕ → ℕ → Type 0
IsTooMuch cores left core cost = (more : ℕ) → cost ≤ more → more < left.rest
    → FitsWith (pieces_on cores core) (cut_of left more) → ⊥

-- of the first k cores of the order, no unused one does so
abbrev pub NoneBefore : List CoreLoad → List ℕ → (ℕ → Type 0) → ℕ → Type 0
NoneBefore order unused Does k = (j : ℕ) (d : CoreLoad) → j < k
    → Contains unused (slice_index_or order j d).core → Does (slice_index_or order j d).core → ⊥

-- the piece that rule 1 places
pub record IsHomePiece (cores : List (List Piece)) (left : Left) (unused : List ℕ)
    (piece : Piece) : Type 0 where
  pub first : IsFirstCore cores unused (TakesRest cores left) piece.core
  pub shape : subtask_of piece ≡ rest_of left

-- the piece that rule 2 cuts off
pub record IsCutPiece (cores : List (List Piece)) (left : Left) (unused : List ℕ)
    (piece : Piece) : Type 0 where
  pub two_unused : 2 ≤ length unused
  pub first : IsFirstCore cores unused (TakesCut cores left) piece.core
  pub greatest : IsGreatestCut cores left piece.core piece.cost
  pub shape : subtask_of piece ≡ cut_of left piece.cost

-- rule 1 finds no core
abbrev pub IsHomeless : List (List Piece) → Left → List ℕ → Type 0
IsHomeless cores left unused = NoneDoes unused (TakesRest cores left)

-- rule 2 finds none
abbrev pub IsUncut : List (List Piece) → Left → List ℕ → Type 0
IsUncut cores left unused = (length unused < 2) ⊎ NoneDoes unused (TakesCut cores left)
