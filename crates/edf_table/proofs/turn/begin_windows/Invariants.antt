use Rattle.std.proofs.Common.{◌≡◌, ◌≤◌, ◌+◌, ℕ, List, get_or, length}
use Rattle.edf_table.specs.Inside.Progress.{ArePending, ArePiecesKept, AreTimely}
use Rattle.edf_table.proofs.turn.begin_windows.Given as goal

-- the windows of the pieces before this one have begun, and those of the others are as they were
abbrev pub invariant-loop-i : goal.invariant-loop-i
invariant-loop-i l = record {
  a_begin_each : length l.begins ≡ length l.initial.begins;
  a_place_each : length l.jobs ≡ length l.initial.jobs;
  kept : ArePiecesKept l.pieces l.begins l.i (l.tick + 1) (l.tick + 1);
  rest : (k : ℕ) → l.i ≤ k → get_or l.begins k 0 ≡ get_or l.initial.begins k 0;
  pending : (gs : List ℕ) → ArePending l.pieces gs l.initial.begins l.initial.jobs l.initial.count
      → ArePending l.pieces gs l.begins l.jobs l.count;
  timely : AreTimely l.jobs l.count (l.tick + 1);
}
