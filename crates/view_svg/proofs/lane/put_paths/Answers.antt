use Rattle.std.proofs.Common.{◌∙◌, sym}
use Rattle.std.proofs.lemmas.Result.{err_from_is_err_and}
use Rattle.tab_io.proofs.SinkLemmas.{writes_broken, writes_nothing, writes_then}
use Rattle.view_svg.specs.Drawings.{palette_view}
use Rattle.view_svg.proofs.LaneLemmas.{no_paths}
use Rattle.view_svg.proofs.lane.put_paths.Goals as goal

pub returns-in_err-put_path : goal.returns-in_err-put_path
returns-in_err-put_path g c =
    let p = err_from_is_err_and c.from_residual.result c.from_residual.ensures.1 in
    rw p.1 (writes_broken _ _ _ _ _ _ c.put_path.ensures c.in_err-put_path.was)

pub returns : goal.returns
returns g c = writes_then _ _ _ _ _ _ _ _ c.put_path.ensures c.in_ok-put_path.was c.put_path-2.ensures

pub returns-then-not-held : goal.returns-then-not-held
returns-then-not-held g c = rw (no_paths c.args.band.now (palette_view c.args.palette.now)
    c.args.bars.now c.args.v (sym c.requires.held ∙ c.if-not-held.true))
    (writes_nothing (g.K.Sink.state c.args.sink.now) (tt {0}))
