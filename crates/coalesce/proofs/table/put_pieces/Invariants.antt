use Rattle.std.proofs.Common.{take}
use Rattle.table_form.specs.Planning.Drafts.{pieces_at}
use Rattle.coalesce.specs.Inside.Passing.{IsPieceTableOf}
use Rattle.coalesce.proofs.table.put_pieces.Given as goal

-- the table is that of the pieces so far
abbrev pub invariant-loop-piece : goal.invariant-loop-piece
invariant-loop-piece l = IsPieceTableOf (pieces_at (take l.piece-index l.pieces) l.core) l.table.items
