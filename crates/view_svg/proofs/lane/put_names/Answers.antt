use Rattle.std.proofs.lemmas.Result.{err_from_is_err_and}
use Rattle.tab_words.proofs.PieceLemmas.{pieces_last, pieces_broken}
use Rattle.view_svg.specs.Lanes.{bar_name}
use Rattle.view_svg.proofs.lane.put_names.Goals as goal

pub returns-in_err-put_bar_name : goal.returns-in_err-put_bar_name
returns-in_err-put_bar_name g c =
    let p = err_from_is_err_and c.from_residual.result c.from_residual.ensures.1 in
    let line = bar_name c.args.band.now c.args.names.now in
    rw p.1 (pieces_broken _ _ _ line c.args.bars.now c.loop-bar.bar-index _ (tt {0}) _
    c.in_err-put_bar_name.field-0.0 c.loop-bar-test.true c.loop-bar.invariant c.put_bar_name.ensures
    c.in_err-put_bar_name.was)

pub loop-bar-preserved : goal.loop-bar-preserved
loop-bar-preserved g c =
    let line = bar_name c.args.band.now c.args.names.now in
    pieces_last _ _ _ line c.args.bars.now c.loop-bar.bar-index _ (tt {0})
    c.in_ok-put_bar_name.field-0 _ c.loop-bar-test.true c.loop-bar.invariant c.put_bar_name.ensures c.in_ok-put_bar_name.was
