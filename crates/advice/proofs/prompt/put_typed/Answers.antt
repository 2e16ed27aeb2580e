use Rattle.tab_io.proofs.SinkLemmas.{writes_then}
use Rattle.advice.proofs.prompt.put_typed.Goals as goal

pub returns : goal.returns
returns g c = writes_then _ _ _ _ _ _ c.in_default.field-0 _ c.put_spaced.ensures c.in_default.is
    c.write_all.ensures
