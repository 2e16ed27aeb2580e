use Rattle.std.proofs.Common.{◌≡◌, ℕ, length}
use Rattle.tab_core.specs.declared.TheConstants.{MAX_VCPUS}
use Rattle.table_form.specs.Planning.Drafts.{pieces_at}
use Rattle.coalesce.specs.Inside.Passing.{IsPieceTableOf}
use Rattle.coalesce.proofs.Built.{IsLeftOf}
use Rattle.coalesce.proofs.table.take_pieces.Given as goal

-- what is left is of the pieces to come
abbrev pub invariant-loop-piece : goal.invariant-loop-piece
invariant-loop-piece l = record {
  size : length l.table.items ≡ MAX_VCPUS;
  left : (core : ℕ) → IsPieceTableOf (pieces_at l.pieces core) l.initial.table.items
      → IsLeftOf l.pieces l.piece-index l.table.items;
}
