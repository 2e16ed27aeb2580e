-- the cells before the next segment are marked
use Rattle.table_form.specs.Tables.Rows.{cells_from}
use Rattle.table_check.specs.Inside.Marks.{KeepsMarks, MarksRow}
use Rattle.table_check.proofs.Sweep.{GoesOnFrom}
use Rattle.table_check.proofs.marks.mark_row.Given as goal

abbrev pub invariant-loop-segment : goal.invariant-loop-segment
invariant-loop-segment l = record {
  kept : KeepsMarks l.initial.marks.items l.marks.items;
  on : GoesOnFrom l.segments l.from l.segment-index;
  marked : MarksRow (cells_from 0 l.segments) l.from l.initial.marks.items l.marks.items;
}
