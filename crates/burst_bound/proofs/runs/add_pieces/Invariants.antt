use Rattle.std.proofs.Common.{◌≡◌, ◌+◌, ◌≤◌, ◌++◌, length, take}
use Rattle.std.specs.Prelude.{vec_capacity}
use Rattle.burst_bound.specs.Inside.Runs.{pieces_of}
use Rattle.burst_bound.proofs.runs.add_pieces.Given as goal

-- the pieces of the stints so far are there
abbrev pub invariant-loop-stint : goal.invariant-loop-stint
invariant-loop-stint l = record {
  items : l.pieces.items ≡ l.fn.pieces.items ++ pieces_of (take l.stint-index l.stints);
  few : length l.pieces.items ≤ length l.fn.pieces.items + l.stint-index;
  capacity : vec_capacity l.pieces ≡ vec_capacity l.fn.pieces;
}
