use Rattle.std.proofs.Common.{arith, rules}
use Rattle.table_check.proofs.Marking.{none_marked, row_more}
use Rattle.table_check.proofs.Sweep.{at_end, end_in_round, goes_on-start, next_on}
use Rattle.table_form.specs.Tables.Rows.{cells_from}
use Rattle.table_check.proofs.marks.mark_row.Goals as goal

pub loop-segment-init : goal.loop-segment-init
loop-segment-init c = record {
  kept = λ v x is. is;
  on = goes_on-start c.args.segments.now c.requires;
  marked = none_marked (cells_from 0 c.args.segments.now) c.args.marks.now.items;
}

pub mark_segment-requires : goal.mark_segment-requires
mark_segment-requires c =
    end_in_round c.args.segments.now c.loop-segment.from c.loop-segment.segment-index c.segment-item.result
    c.loop-segment.invariant.on c.loop-segment-test.true c.segment-item.is

pub loop-segment-preserved : goal.loop-segment-preserved
loop-segment-preserved c = record {
  kept = λ v x is. c.mark_segment.ensures.kept v x (c.loop-segment.invariant.kept v x is);
  on = next_on c.args.segments.now c.loop-segment.from c.loop-segment.segment-index c.segment-item.result
      c.loop-segment.invariant.on c.loop-segment-test.true c.segment-item.is;
  marked = row_more c.args.segments.now c.loop-segment.from c.loop-segment.segment-index
      c.segment-item.result c.args.marks.now.items c.loop-segment.marks.items
      c.mark_segment.new.marks.items c.loop-segment.invariant.on c.loop-segment-test.true c.segment-item.is
      c.loop-segment.invariant.kept c.mark_segment.ensures.kept
      (c.mark_segment.ensures.marked (search rules)) c.loop-segment.invariant.marked;
}

pub returns-clause-marked : goal.returns-clause-marked
returns-clause-marked c = λ is v x low cell.
    let past = at_end c.args.segments.now c.loop-segment.from c.loop-segment.segment-index
    c.loop-segment.invariant.on c.loop-segment-test.false in
    c.loop-segment.invariant.marked v x (omega arith) cell
