use Rattle.host_gen.proofs.HostTextLemmas.{first_pieces, named_none, named_some, second_pieces}
use Rattle.host_gen.proofs.write.put_format.Goals as goal

pub returns-then-tick_ns-eq-TICK_NS : goal.returns-then-tick_ns-eq-TICK_NS
returns-then-tick_ns-eq-TICK_NS g c =
    rw (named_none c.args.tick_ns c.if-tick_ns-eq-TICK_NS.true, first_pieces) c.write_all.ensures

pub returns : goal.returns
returns g c = rw (named_some c.args.tick_ns c.if-tick_ns-eq-TICK_NS.false, second_pieces c.args.tick_ns)
    c.put_pieces.ensures
