use Rattle.std.proofs.lemmas.Result.{err_from_is_err_and}
use Rattle.tab_io.proofs.SinkLemmas.{writes_broken, writes_then}
use Rattle.host_gen.specs.HostText.{host_text}
use Rattle.host_gen.proofs.write.write_host.Goals as goal

pub returns-in_err-put_head : goal.returns-in_err-put_head
unfolding host_text
returns-in_err-put_head g c =
    let p = err_from_is_err_and c.from_residual.result c.from_residual.ensures.1 in
    rw p.1 (writes_broken _ _ _ _ _ _ c.put_head.ensures c.in_err-put_head.was)

pub returns : goal.returns
unfolding host_text
returns g c = rw (← c.items.ensures.same)
    (writes_then _ _ _ _ _ _ _ _ c.put_head.ensures c.in_ok-put_head.was c.put_vcpus.ensures)
