use Rattle.std.proofs.lemmas.Result.{err_from_is_err_and}
use Rattle.std.proofs.Common.{refl}
use Rattle.tab_io.proofs.SinkLemmas.{all_left, left_behind, left_broken, left_last}
use Rattle.view_chart.proofs.head.put_fills_of.Goals as goal

pub returns-in_err-put_foot_fill : goal.returns-in_err-put_foot_fill
returns-in_err-put_foot_fill g c =
    let p = err_from_is_err_and c.from_residual.result c.from_residual.ensures.1 in
    rw p.1 (left_broken _ _ _ _ _ _ _ _ _ (all_left _ _) refl c.put_foot_fill.ensures c.in_err-put_foot_fill.was)

pub returns-in_err-put_stripes : goal.returns-in_err-put_stripes
returns-in_err-put_stripes g c =
    let p = err_from_is_err_and c.from_residual-in_err-put_stripes.result c.from_residual-in_err-put_stripes.ensures.1 in
    let at0 = left_behind _ _ _ _ _ _ _ _ _ (all_left _ _) refl c.put_foot_fill.ensures c.in_ok-put_foot_fill.was in
    rw p.1 (left_broken _ _ _ _ _ _ _ _ _ at0 refl c.put_stripes.ensures c.in_err-put_stripes.was)

pub returns : goal.returns
returns g c =
    let at0 = left_behind _ _ _ _ _ _ _ _ _ (all_left _ _) refl c.put_foot_fill.ensures c.in_ok-put_foot_fill.was in
    let at1 = left_behind _ _ _ _ _ _ _ _ _ at0 refl c.put_stripes.ensures c.in_ok-put_stripes.was in
    left_last _ _ _ _ _ _ at1 c.put_stripes-2.ensures
