-- the pieces of the cores so far
use Rattle.std.proofs.Common.{◌≡◌, take}
use Rattle.plan_make.specs.Planned.{all_pieces}
use Rattle.plan_make.proofs.draft.pieces_of.Given as goal

abbrev pub invariant-loop-core : goal.invariant-loop-core
invariant-loop-core l = l.pieces.items ≡ all_pieces (take l.core l.cores)
