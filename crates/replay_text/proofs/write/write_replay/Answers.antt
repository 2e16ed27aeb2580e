use Rattle.tab_io.proofs.SinkLemmas.{writes_broken, writes_then}
use Rattle.replay_text.proofs.write.write_replay.Goals as goal

pub returns-in-Err : goal.returns-in-Err
returns-in-Err g c = rw (← c.items-vcpus.ensures.same)
    (writes_broken _ _ _ _ _ c.in-Err.fault c.put_all_made.ensures c.in-Err.is)

pub returns : goal.returns
returns g c = rw (← c.items-vcpus.ensures.same)
    (writes_then _ _ _ _ _ _ c.in_default.field-0 _ c.put_all_made.ensures c.in_default.is
    (rw c.posted.ensures at c.put_posted.ensures))
