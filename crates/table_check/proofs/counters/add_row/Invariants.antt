-- the segments before this one are counted
use Rattle.std.proofs.Common.{◌≡◌, length}
use Rattle.table_check.proofs.Supplying.{CountsTo}
use Rattle.table_check.proofs.Sweep.{GoesOnFrom}
use Rattle.table_check.proofs.counters.add_row.Given as goal

abbrev pub invariant-loop-segment : goal.invariant-loop-segment
invariant-loop-segment l = record {
  size : length l.counters.items ≡ length l.initial.counters.items;
  on : GoesOnFrom l.segments l.from l.segment-index;
  counted : CountsTo l.tasks l.segments l.from l.initial.counters.items l.counters.items;
}
