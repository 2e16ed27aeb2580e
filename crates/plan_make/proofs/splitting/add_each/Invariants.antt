use Rattle.std.proofs.Common.{◌≡◌, take}
use Rattle.plan_make.specs.SplitInTurn.{with_pieces}
use Rattle.plan_make.proofs.splitting.add_each.Given as goal

abbrev pub invariant-loop-piece : goal.invariant-loop-piece
invariant-loop-piece l = l.cores ≡ with_pieces l.initial.cores (take l.piece-index l.pieces)
