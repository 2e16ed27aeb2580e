use Rattle.std.proofs.lemmas.Result.{err_from_is_err_and}
use Rattle.tab_io.proofs.SinkLemmas.{writes_broken, writes_then}
use Rattle.view_schedulers.proofs.lines.put_deadline_lines.Goals as goal

pub returns-in_err-put_into : goal.returns-in_err-put_into
returns-in_err-put_into g c =
    let p = err_from_is_err_and c.from_residual.result c.from_residual.ensures.1 in
    rw p.1 (writes_broken _ _ _ _ _ _ c.put_into.ensures c.in_err-put_into.was)

pub returns : goal.returns
returns g c = writes_then _ _ _ _ _ _ _ _ c.put_into.ensures c.in_ok-put_into.was c.put_chrt.ensures
