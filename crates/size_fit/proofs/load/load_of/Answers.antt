use Rattle.std.proofs.Common.{ap, ◌∙◌, arith}
use Rattle.size_fit.specs.Loads.{load_of_row}
use Rattle.size_fit.proofs.LoadLemmas.{counts_all, counts_none, next}
use Rattle.size_fit.proofs.load.load_of.Goals as goal

pub loop-segment-init : goal.loop-segment-init
loop-segment-init c = counts_none c.segments-parts.result.now c.segments-parts.ensures.rises

pub ticks_of-load-requires : goal.ticks_of-load-requires
ticks_of-load-requires c =
    let n = next c.segments-parts.result.now c.loop-segment.segment-index c.loop-segment.from c.loop-segment.load
    c.segment-item.result c.loop-segment.invariant c.loop-segment-test.true c.segment-item.is in
    omega (arith, n.rises)

pub overflow_add-load : goal.overflow_add-load
overflow_add-load c =
    let n = next c.segments-parts.result.now c.loop-segment.segment-index c.loop-segment.from c.loop-segment.load
    c.segment-item.result c.loop-segment.invariant c.loop-segment-test.true c.segment-item.is in
    omega (arith, n.low, n.ends, c.ticks_of-load.ensures)

pub loop-segment-preserved : goal.loop-segment-preserved
loop-segment-preserved c =
    let n = next c.segments-parts.result.now c.loop-segment.segment-index c.loop-segment.from c.loop-segment.load
    c.segment-item.result c.loop-segment.invariant c.loop-segment-test.true c.segment-item.is in
    rw c.ticks_of-load.ensures n.more

pub returns : goal.returns
returns c =
    counts_all c.segments-parts.result.now c.loop-segment.segment-index c.loop-segment.from c.loop-segment.load
    c.loop-segment-test.false c.loop-segment.invariant ∙ ap load_of_row c.segments-parts.ensures.cells
