use Rattle.std.proofs.Common.{map, ap, subst, sym}
use Rattle.table_form.specs.Tables.Segments.{segment_view}
use Rattle.coalesce.proofs.Steps.{HasPassed, all_passed, below_next, none_passed, one_comes}
use Rattle.coalesce.proofs.pass.swap_all.Goals as goal

pub loop-segment-init : goal.loop-segment-init
loop-segment-init c = subst (HasPassed c.args.segments.now c.args.table.now c.args.sliver 0)
    (sym (ap (map segment_view) c.in_ok-out.ensures.items))
    (none_passed c.args.segments.now c.args.table.now c.args.sliver c.requires.maximal)

pub take_next-requires-clause-below : goal.take_next-requires-clause-below
take_next-requires-clause-below c =
    let next = one_comes c.args.segments.now c.args.table.now c.args.sliver c.loop-segment.segment-index
    (map segment_view c.loop-segment.out.items) c.segment-item.result c.loop-segment-test.true c.segment-item.is
    c.loop-segment.invariant in
    below_next (map segment_view c.loop-segment.out.items)
    (segment_view c.segment-item.result) next.rest next.stands

pub take_next-requires-clause-in_round : goal.take_next-requires-clause-in_round
take_next-requires-clause-in_round c =
    (one_comes c.args.segments.now c.args.table.now c.args.sliver c.loop-segment.segment-index
    (map segment_view c.loop-segment.out.items) c.segment-item.result c.loop-segment-test.true c.segment-item.is
    c.loop-segment.invariant).in_round

pub loop-segment-preserved : goal.loop-segment-preserved
loop-segment-preserved c =
    let next = one_comes c.args.segments.now c.args.table.now c.args.sliver c.loop-segment.segment-index
    (map segment_view c.loop-segment.out.items) c.segment-item.result c.loop-segment-test.true c.segment-item.is
    c.loop-segment.invariant in
    let took = c.in_ok-take_next.ensures in
    next.after (map segment_view c.take_next.new.out.items) (took.stands next.rest next.stands)
    (λ pieces of. took.passed pieces _ next.rest of next.stands (next.passed pieces of))

pub returns-clause-maximal : goal.returns-clause-maximal
returns-clause-maximal c = (all_passed c.args.segments.now c.args.table.now c.args.sliver _
    (map segment_view c.loop-segment.out.items) c.loop-segment-test.false c.loop-segment.invariant).maximal

pub returns-clause-swaps : goal.returns-clause-swaps
returns-clause-swaps c pieces is = (all_passed c.args.segments.now c.args.table.now c.args.sliver _
    (map segment_view c.loop-segment.out.items) c.loop-segment-test.false c.loop-segment.invariant).swaps pieces is
