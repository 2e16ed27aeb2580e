use Rattle.std.proofs.lemmas.Result.{err_from_is_err_and}
use Rattle.tab_words.proofs.PieceLemmas.{pieces_last, pieces_broken}
use Rattle.view_svg.specs.Lanes.{bar_cut}
use Rattle.view_svg.proofs.lane.put_cuts.Goals as goal

pub returns-in_err-put_cut : goal.returns-in_err-put_cut
returns-in_err-put_cut g c =
    let p = err_from_is_err_and c.from_residual.result c.from_residual.ensures.1 in
    let line = bar_cut c.args.band.now in
    rw p.1 (pieces_broken _ _ _ line c.args.bars.now c.loop-bar.bar-index _ (tt {0}) _
    c.in_err-put_cut.field-0.0 c.loop-bar-test.true c.loop-bar.invariant c.put_cut.ensures
    c.in_err-put_cut.was)

pub loop-bar-preserved : goal.loop-bar-preserved
loop-bar-preserved g c =
    let line = bar_cut c.args.band.now in
    pieces_last _ _ _ line c.args.bars.now c.loop-bar.bar-index _ (tt {0})
    c.in_ok-put_cut.field-0 _ c.loop-bar-test.true c.loop-bar.invariant c.put_cut.ensures c.in_ok-put_cut.was
