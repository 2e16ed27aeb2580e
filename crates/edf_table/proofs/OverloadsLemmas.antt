-- The pieces of an overloaded interval: there is one, and it tells the core.
use Rattle.std.proofs.Common.{◌≡◌, ℕ, ◌<◌, List, [], ◌∷◌, length, get_or, refl, arith}
use Rattle.tab_core.specs.declared.piece.Piece.{Piece}
use Rattle.table_form.specs.Planning.Jobs.{jobs_of}
use Rattle.table_form.specs.Planning.Demand.{IsOverloaded, demand_in}
use Rattle.edf_table.specs.Overloads.{core_of}
use Rattle.edf_table.proofs.Pieces.{jobs_of-nil}
use Rattle.edf_table.proofs.LoadLemmas.{demand_in-none}

-- no pieces ask for nothing, so the first piece may be read where an interval is overloaded
pub some_piece : (ps : List Piece) (start end : ℕ) → IsOverloaded (jobs_of ps) start end → 0 < length ps
some_piece [] start end over =
    let none : demand_in (jobs_of []) start end ≡ 0 = rw jobs_of-nil (demand_in-none start end) in
    let much = over.too_much in
    absurd (omega arith)
some_piece (p ∷ ps) start end over = omega arith

-- the code reads the core of the first piece
pub core_of_first : (ps : List Piece) (d : Piece) → 0 < length ps → (get_or ps 0 d).core ≡ core_of ps
core_of_first [] d some = absurd (omega arith)
core_of_first (p ∷ ps) d some = refl
