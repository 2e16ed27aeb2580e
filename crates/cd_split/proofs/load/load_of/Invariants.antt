use Rattle.std.proofs.Common.{◌≡◌, take}
use Rattle.edf_table.specs.Load.{load_of_pieces}
use Rattle.cd_split.proofs.load.load_of.Given as goal

abbrev pub invariant-loop-piece : goal.invariant-loop-piece
invariant-loop-piece l = l.sum ≡ load_of_pieces (take l.piece-index l.pieces)
