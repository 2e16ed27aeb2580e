-- The pieces that are on each core, by core number.
use Rattle.std.specs.Prelude.{◌≡◌, ◌≢◌, ℕ, ◌≤◌, List, [], ◌∷◌, ◌++◌, All, length, slice_index_or}
use Rattle.tab_core.specs.declared.TheConstants.{MAX_CORES}
use Rattle.tab_core.specs.declared.piece.Piece.{Piece}
use Rattle.table_form.specs.Planning.Jobs.{jobs_of}
use Rattle.table_form.specs.Planning.Demand.{Fits}
use Rattle.table_form.specs.Planning.Windows.{DistinctVcpus}

-- the pieces on a core
abbrev pub pieces_on : List (List Piece) → ℕ → List Piece
pieces_on cores core = slice_index_or cores core []

-- none of the pieces is the vCPU's
abbrev pub LackVcpu : ℕ → List Piece → Type 0
LackVcpu vcpu pieces = All (λ p. p.vcpu ≢ vcpu) pieces

-- the piece fits beside these
abbrev pub HaveRoomFor : List Piece → Piece → Type 0
HaveRoomFor pieces piece = Fits (jobs_of (pieces ++ piece ∷ []))

-- what the pieces of one core keep: they are of distinct vCPUs, and they fit
pub record ShareCore (pieces : List Piece) : Type 0 where
  pub distinct : DistinctVcpus pieces
  pub fit : Fits (jobs_of pieces)

-- what the pieces of the cores keep: each is on its own core, and shares it with the others there
pub record KeepCores (cores : List (List Piece)) : Type 0 where
  pub few : length cores ≤ MAX_CORES
  pub own : (core : ℕ) → All (λ p. p.core ≡ core) (pieces_on cores core)
  pub share : (core : ℕ) → ShareCore (pieces_on cores core)
