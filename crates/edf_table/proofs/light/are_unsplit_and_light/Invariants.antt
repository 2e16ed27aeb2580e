use Rattle.std.proofs.Common.{◌≡◌, ◌≤◌, take}
use Rattle.tab_core.specs.declared.TheConstants.{ROUND}
use Rattle.edf_table.specs.Load.{AreUnsplit, load_of_pieces}
use Rattle.edf_table.proofs.light.are_unsplit_and_light.Given as goal

abbrev pub invariant-loop-piece : goal.invariant-loop-piece
invariant-loop-piece l = record {
  whole : AreUnsplit (take l.piece-index l.pieces);
  value : l.load ≡ load_of_pieces (take l.piece-index l.pieces);
  light : l.load ≤ ROUND;
}
