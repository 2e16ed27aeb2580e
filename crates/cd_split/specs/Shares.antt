-- What the pieces of a split vCPU keep.
use Rattle.std.specs.Prelude.{◌≡◌, ℕ, ◌<◌, List, [], ◌∷◌, Some, All, length, slice_get}
use Rattle.tab_core.specs.declared.piece.Piece.{Piece}
use Rattle.table_form.specs.Planning.Jobs.{subtask_of}
use Rattle.cd_split.specs.Cores.{pieces_on, HaveRoomFor}

-- each piece fits beside the pieces on its core
abbrev pub FitTheirCores : List (List Piece) → List Piece → Type 0
FitTheirCores cores pieces = All (λ p. (p.core < length cores)
    × HaveRoomFor (pieces_on cores p.core) p) pieces

-- no two pieces are on one core
abbrev pub StandApart : List Piece → Type 0
StandApart pieces = (i j : ℕ) (a b : Piece) → slice_get pieces i ≡ Some a
    → slice_get pieces j ≡ Some b → a.core ≡ b.core → i ≡ j

-- each window begins where the one before it ends, from one tick of the period to another
abbrev pub HaveAdjacentWindows : ℕ → ℕ → List Piece → Type 0
HaveAdjacentWindows from to [] = from ≡ to
HaveAdjacentWindows from to (p ∷ ps) = (p.from ≡ from) × HaveAdjacentWindows p.to to ps

-- each piece is of the vCPU and has its period
abbrev pub AreOf : ℕ → ℕ → List Piece → Type 0
AreOf vcpu period pieces = All (λ p. (p.vcpu ≡ vcpu) × (p.period ≡ period)) pieces

-- the pieces are of one core and say the same
abbrev pub IsSamePiece : Piece → Piece → Type 0
IsSamePiece p q = (p.core ≡ q.core) × (subtask_of p ≡ subtask_of q)
