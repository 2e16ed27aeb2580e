use Rattle.std.proofs.Common.{◌≡◌, [], replicate}
use Rattle.cd_split.proofs.core_pieces.CorePieces.empty.Given as goal

abbrev pub invariant-loop : goal.invariant-loop
invariant-loop l = l.lists.items ≡ replicate l.counter []
