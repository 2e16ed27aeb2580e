use Rattle.std.proofs.lemmas.Result.{err_from_is_err_and}
use Rattle.tab_words.proofs.PieceLemmas.{pieces_last, pieces_broken}
use Rattle.view_svg.specs.Lanes.{box_of}
use Rattle.view_svg.proofs.lane.put_boxes.Goals as goal

pub returns-in_err-put_box_of : goal.returns-in_err-put_box_of
returns-in_err-put_box_of g c =
    let p = err_from_is_err_and c.from_residual.result c.from_residual.ensures.1 in
    let line = box_of c.args.band.now c.args.v c.args.shared in
    rw p.1 (pieces_broken _ _ _ line c.args.bars.now c.loop-bar.bar-index _ (tt {0}) _
    c.in_err-put_box_of.field-0.0 c.loop-bar-test.true c.loop-bar.invariant c.put_box_of.ensures
    c.in_err-put_box_of.was)

pub loop-bar-preserved : goal.loop-bar-preserved
loop-bar-preserved g c =
    let line = box_of c.args.band.now c.args.v c.args.shared in
    pieces_last _ _ _ line c.args.bars.now c.loop-bar.bar-index _ (tt {0})
    c.in_ok-put_box_of.field-0 _ c.loop-bar-test.true c.loop-bar.invariant c.put_box_of.ensures c.in_ok-put_box_of.was
