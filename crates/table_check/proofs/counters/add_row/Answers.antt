use Rattle.std.proofs.Common.{refl, ◌∙◌, arith}
use Rattle.table_check.proofs.Supplying.{counts_all, counts_more, counts_none, room_in_row}
use Rattle.table_check.proofs.Sweep.{at_end, end_in_round, goes_on-start, next_on, next_parts}
use Rattle.table_check.proofs.counters.add_row.Goals as goal

pub loop-segment-init : goal.loop-segment-init
loop-segment-init c = record {
  size = refl;
  on = goes_on-start c.args.segments.now c.requires.rises;
  counted = counts_none c.args.tasks.now c.args.segments.now c.args.counters.now.items;
}

pub add_segment-requires-clause-room : goal.add_segment-requires-clause-room
add_segment-requires-clause-room c =
    room_in_row c.args.tasks.now c.args.segments.now c.loop-segment.from c.args.counters.now.items
    c.loop-segment.counters.items c.loop-segment.invariant.counted c.requires.room

pub add_segment-requires-clause-rises : goal.add_segment-requires-clause-rises
add_segment-requires-clause-rises c =
    let rises = (next_parts c.args.segments.now c.loop-segment.from c.loop-segment.segment-index
    c.segment-item.result c.loop-segment.invariant.on c.loop-segment-test.true c.segment-item.is).0 in
    omega arith

pub add_segment-requires-clause-in_round : goal.add_segment-requires-clause-in_round
add_segment-requires-clause-in_round c =
    end_in_round c.args.segments.now c.loop-segment.from c.loop-segment.segment-index c.segment-item.result
    c.loop-segment.invariant.on c.loop-segment-test.true c.segment-item.is

pub loop-segment-preserved : goal.loop-segment-preserved
loop-segment-preserved c = record {
  size = c.add_segment.ensures.size ∙ c.loop-segment.invariant.size;
  on = next_on c.args.segments.now c.loop-segment.from c.loop-segment.segment-index c.segment-item.result
      c.loop-segment.invariant.on c.loop-segment-test.true c.segment-item.is;
  counted = counts_more c.args.tasks.now c.args.segments.now c.loop-segment.from c.loop-segment.segment-index
      c.segment-item.result c.args.counters.now.items c.loop-segment.counters.items
      c.add_segment.new.counters.items c.loop-segment.invariant.on c.loop-segment-test.true c.segment-item.is
      c.requires.rises c.loop-segment.invariant.counted c.add_segment.ensures.grown;
}

pub returns-clause-grown : goal.returns-clause-grown
returns-clause-grown c =
    let past = at_end c.args.segments.now c.loop-segment.from c.loop-segment.segment-index
    c.loop-segment.invariant.on c.loop-segment-test.false in
    counts_all c.args.tasks.now c.args.segments.now c.loop-segment.from c.args.counters.now.items
    c.loop-segment.counters.items c.requires.rises past c.loop-segment.invariant.counted
