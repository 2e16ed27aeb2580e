use Rattle.std.proofs.Common.{[]}
use Rattle.coalesce.specs.Inside.Passing.{IsPieceTableOf}
use Rattle.coalesce.proofs.Joined.{JoinedSoFar}
use Rattle.coalesce.proofs.joining.join_rows.Given as goal

-- the rows of the first cores are joined, and the table has no piece
abbrev pub invariant-loop-core : goal.invariant-loop-core
invariant-loop-core l = record {
  joined : JoinedSoFar l.pieces l.capped l.sliver l.rows l.core l.joined.items;
  none : IsPieceTableOf [] l.table.items;
}
