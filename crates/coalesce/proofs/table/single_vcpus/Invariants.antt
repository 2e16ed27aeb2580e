use Rattle.std.proofs.Common.{take}
use Rattle.coalesce.proofs.Built.{HaveSeen}
use Rattle.coalesce.proofs.table.single_vcpus.Given as goal

-- the sets are those of the pieces so far
abbrev pub invariant-loop-piece : goal.invariant-loop-piece
invariant-loop-piece l = HaveSeen (take l.piece-index l.pieces) l.seen l.single
