use Rattle.std.proofs.Common.{◌+◌, refl, drop, length, arith}
use Rattle.table_form.specs.Tables.Rows.{cells_from}
use Rattle.edf_table.proofs.RepetitionLemmas.{all_have_come, left_rise, none_have_come, one_has_come, segments_few}
use Rattle.edf_table.proofs.row.push_all.Goals as goal

pub overflow_add-next : goal.overflow_add-next
overflow_add-next c =
    let ss = c.args.segments.now in
    let i = c.loop-segment.segment-index in
    let total = length (cells_from 0 ss) in
    let rises = left_rise ss i c.loop-segment.invariant.start total c.segment-item.result
    c.loop-segment-test.true c.segment-item.is c.loop-segment.invariant.rises in
    let few = segments_few c.segment-item.result.end (drop (i + 1) ss) total rises.1 in
    omega (arith, few, c.requires.room)

pub loop-segment-init : goal.loop-segment-init
loop-segment-init c = none_have_come c.args.segments.now c.args.row.now.items c.args.begin c.requires.rises
    c.requires.before

pub loop-segment-preserved : goal.loop-segment-preserved
loop-segment-preserved c = one_has_come c.args.segments.now c.args.row.now.items c.loop-segment.row.items
    c.push_segment.new.segments.items c.args.begin c.loop-segment.segment-index c.segment-item.result
    c.segment-item.result.owner c.loop-segment-test.true c.segment-item.is refl c.in_ok-push_segment.ensures.ok
    c.loop-segment.invariant

pub returns-clause-maximal : goal.returns-clause-maximal
returns-clause-maximal c = (all_have_come c.args.segments.now c.args.row.now.items c.loop-segment.row.items
    c.args.begin c.loop-segment.segment-index c.loop-segment-test.false c.loop-segment.invariant).0

pub returns-clause-cells : goal.returns-clause-cells
returns-clause-cells c = (all_have_come c.args.segments.now c.args.row.now.items c.loop-segment.row.items
    c.args.begin c.loop-segment.segment-index c.loop-segment-test.false c.loop-segment.invariant).1
