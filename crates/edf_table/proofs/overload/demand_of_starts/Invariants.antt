use Rattle.std.proofs.Common.{◌≡◌, ◌≤◌, ◌*◌, ◌^◌, take}
use Rattle.table_form.specs.Planning.Jobs.{jobs_of}
use Rattle.edf_table.specs.Inside.Progress.{demand_from}
use Rattle.edf_table.proofs.overload.demand_of_starts.Given as goal

abbrev pub invariant-loop-piece : goal.invariant-loop-piece
invariant-loop-piece l = record {
  value : l.sum ≡ demand_from (jobs_of (take l.piece-index l.pieces)) l.start l.end;
  small : l.sum ≤ l.piece-index * 2 ^ 32;
}
