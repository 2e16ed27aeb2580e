use Rattle.std.proofs.lemmas.Result.{err_from_is_err_and}
use Rattle.std.proofs.Common.{refl}
use Rattle.tab_io.proofs.SinkLemmas.{all_left, left_behind, left_broken, left_last}
use Rattle.view_judge.proofs.tables.put_end.Goals as goal

pub returns-in_err-put_verdict : goal.returns-in_err-put_verdict
returns-in_err-put_verdict g c =
    let p = err_from_is_err_and c.from_residual.result c.from_residual.ensures.1 in
    rw p.1 (left_broken _ _ _ _ _ _ _ _ _ (all_left _ _) refl c.put_verdict.ensures c.in_err-put_verdict.was)

pub returns-in_err-put_verdict_end : goal.returns-in_err-put_verdict_end
returns-in_err-put_verdict_end g c =
    let p = err_from_is_err_and c.from_residual-in_err-put_verdict_end.result c.from_residual-in_err-put_verdict_end.ensures.1 in
    let at0 = left_behind _ _ _ _ _ _ _ _ _ (all_left _ _) refl c.put_verdict.ensures c.in_ok-put_verdict.was in
    rw p.1 (left_broken _ _ _ _ _ _ _ _ _ at0 refl c.put_verdict_end.ensures c.in_err-put_verdict_end.was)

pub returns : goal.returns
returns g c =
    let at0 = left_behind _ _ _ _ _ _ _ _ _ (all_left _ _) refl c.put_verdict.ensures c.in_ok-put_verdict.was in
    let at1 = left_behind _ _ _ _ _ _ _ _ _ at0 refl c.put_verdict_end.ensures c.in_ok-put_verdict_end.was in
    left_last _ _ _ _ _ _ at1 c.put_lines.ensures
