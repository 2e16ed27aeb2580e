use Rattle.std.proofs.Common.{◌≡◌, take}
use Rattle.std.specs.Prelude.{vec_capacity}
use Rattle.table_form.specs.Running.State.{State}
use Rattle.burst_bound.specs.Inside.Runs.{ran_pieces}
use Rattle.burst_bound.specs.KeptRuns.{IsKeptRun}
use Rattle.burst_bound.proofs.runs.gather.Given as goal

-- the pieces of the cores so far are there
abbrev pub invariant-loop-core : goal.invariant-loop-core
invariant-loop-core l = record {
  items : (s : State) → IsKeptRun l.fn.course l.fn.rounds l.fn.crew s
      → l.pieces.items ≡ ran_pieces (take l.core s.cores);
  capacity : vec_capacity l.pieces ≡ vec_capacity l.fn.pieces;
}
