use Rattle.tab_io.proofs.SinkLemmas.{writes_broken, writes_then}
use Rattle.advice.proofs.room.put_asked.Goals as goal

pub returns-in-Err : goal.returns-in-Err
returns-in-Err g c = writes_broken _ _ _ _ _ c.in-Err.fault c.put_ticks.ensures c.in-Err.is

pub returns : goal.returns
returns g c = writes_then _ _ _ _ _ _ c.in_default.field-0 _ c.put_ticks.ensures c.in_default.is
    c.put_percent.ensures
