use Rattle.std.proofs.Common.{◌≤◌, length}
use Rattle.edf_table.specs.Inside.Progress.{ArePiecesKept}
use Rattle.edf_table.proofs.turn.put_first_begins.Given as goal

abbrev pub invariant-loop-i : goal.invariant-loop-i
invariant-loop-i l = record {
  a_begin_each : length l.pieces ≤ length l.begins;
  kept : ArePiecesKept l.pieces l.begins l.i 0 0;
}
