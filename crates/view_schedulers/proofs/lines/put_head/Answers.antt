use Rattle.std.proofs.lemmas.Result.{err_from_is_err_and}
use Rattle.tab_io.proofs.SinkLemmas.{writes_broken, writes_then}
use Rattle.view_schedulers.proofs.lines.put_head.Goals as goal

pub returns-in_err-write_all : goal.returns-in_err-write_all
returns-in_err-write_all g c =
    let p = err_from_is_err_and c.from_residual.result c.from_residual.ensures.1 in
    rw p.1 (writes_broken _ _ _ _ _ _ c.write_all.ensures c.in_err-write_all.was)

pub returns : goal.returns
returns g c = writes_then _ _ _ _ _ _ _ _ c.write_all.ensures c.in_ok-write_all.was c.write_all-2.ensures
