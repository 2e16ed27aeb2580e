-- Pieces of vCPUs that are not split, and what pieces take of a round.
use Rattle.std.specs.Prelude.{◌≡◌, ℕ, ◌+◌, ◌*◌, ◌/◌, List, [], ◌∷◌}
use Rattle.tab_core.specs.declared.TheConstants.{ROUND}
use Rattle.tab_core.specs.declared.piece.Piece.{Piece}

-- the piece is all of a vCPU: its windows are the periods themselves
pub record IsUnsplit (p : Piece) : Type 0 where
  pub begins : p.from ≡ 0
  pub ends : p.to ≡ p.period

-- each piece is all of its vCPU
abbrev pub AreUnsplit : List Piece → Type 0
AreUnsplit [] = Unit {0}
AreUnsplit (p ∷ ps) = IsUnsplit p × AreUnsplit ps

-- what the pieces take of a round, in ticks
abbrev pub load_of_pieces : List Piece → ℕ
load_of_pieces [] = 0
load_of_pieces (p ∷ ps) = p.cost * (ROUND / p.period) + load_of_pieces ps
