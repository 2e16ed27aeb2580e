use Rattle.std.proofs.lemmas.Result.{err_from_is_err_and}
use Rattle.std.proofs.Common.{◌∙◌, refl, sym}
use Rattle.tab_io.proofs.SinkLemmas.{all_left, left_behind, left_broken, left_last, writes_nothing}
use Rattle.view_svg.proofs.lane.put_seams.Goals as goal

pub returns-then-is_empty : goal.returns-then-is_empty
returns-then-is_empty g c =
    rw (sym c.is_empty.ensures ∙ c.if-is_empty.true) (writes_nothing (g.K.Sink.state c.args.sink.now) (tt {0}))

pub returns-in_err-write_all : goal.returns-in_err-write_all
returns-in_err-write_all g c =
    let p = err_from_is_err_and c.from_residual.result c.from_residual.ensures.1 in
    rw (p.1, sym c.is_empty.ensures ∙ c.if-is_empty.false)
    (left_broken _ _ _ _ _ _ _ _ _ (all_left _ _) refl c.write_all.ensures c.in_err-write_all.was)

pub returns-in_err-put_cuts : goal.returns-in_err-put_cuts
returns-in_err-put_cuts g c =
    let p = err_from_is_err_and c.from_residual-in_err-put_cuts.result c.from_residual-in_err-put_cuts.ensures.1 in
    let at0 = left_behind _ _ _ _ _ _ _ _ _ (all_left _ _) refl c.write_all.ensures c.in_ok-write_all.was in
    rw (p.1, sym c.is_empty.ensures ∙ c.if-is_empty.false)
    (left_broken _ _ _ _ _ _ _ _ _ at0 refl c.put_cuts.ensures c.in_err-put_cuts.was)

pub returns : goal.returns
returns g c =
    let at0 = left_behind _ _ _ _ _ _ _ _ _ (all_left _ _) refl c.write_all.ensures c.in_ok-write_all.was in
    let at1 = left_behind _ _ _ _ _ _ _ _ _ at0 refl c.put_cuts.ensures c.in_ok-put_cuts.was in
    rw (sym c.is_empty.ensures ∙ c.if-is_empty.false) (left_last _ _ _ _ _ _ at1 c.write_all-2.ensures)
