use Rattle.std.proofs.lemmas.Result.{err_from_is_err_and}
use Rattle.tab_io.proofs.SinkLemmas.{writes_broken, writes_then}
use Rattle.host_gen.proofs.HostTextLemmas.{head_parts}
use Rattle.host_gen.proofs.write.put_head.Goals as goal

pub returns-in_err-put_format : goal.returns-in_err-put_format
returns-in_err-put_format g c =
    let p = err_from_is_err_and c.from_residual.result c.from_residual.ensures.1 in
    rw (p.1, head_parts c.args.host.now) (writes_broken _ _ _ _ _ _ c.put_format.ensures c.in_err-put_format.was)

pub returns : goal.returns
returns g c = rw (head_parts c.args.host.now)
    (writes_then _ _ _ _ _ _ _ _ c.put_format.ensures c.in_ok-put_format.was c.put_numbers.ensures)
