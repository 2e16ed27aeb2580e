use Rattle.host_judge.proofs.JudgingLemmas.{ended_come, failed_come, in_both, none_come, piece_come, piece_fault}
use Rattle.host_judge.proofs.judging.judge_trace.Goals as goal

pub loop-init : goal.loop-init
loop-init g c = none_come _ _ _ _ _ c.new-held.ensures.items c.in-Ok.ensures

pub returns-in-Err : goal.returns-in-Err
returns-in-Err g c =
    piece_fault _ _ _ _ _ _ _ _ c.in-Bytes.count _ c.read.new.into _ c.loop.invariant c.in-Bytes.ensures.gave
    c.in-Bytes.ensures.later c.in-Err.ensures.fault

pub returns-in-End : goal.returns-in-End
returns-in-End g c =
    let told = rw c.deref.ensures.value at c.finish.ensures.told in
    let bad = rw c.deref.ensures.value at c.finish.ensures.fault in
    ended_come _ _ _ _ _ _ _ c.read.new.into c.loop.reading _ c.finish.result c.loop.invariant c.in-End.ensures.gave
    c.in-End.ensures.later (in_both c.finish.result _ _ told bad)

pub returns-in-Failed : goal.returns-in-Failed
returns-in-Failed g c =
    failed_come _ _ _ _ _ _ _ c.read.new.into _ _ c.loop.invariant c.in-Failed.ensures.gave c.in-Failed.ensures.later

pub loop-preserved : goal.loop-preserved
loop-preserved g c =
    piece_come _ _ _ _ _ _ _ _ _ c.in-Bytes.count _ c.read.new.into c.loop.invariant c.in-Bytes.ensures.gave
    c.in-Bytes.ensures.later c.in_default-take_piece.ensures.names c.in_default-take_piece.ensures.terms c.in_default-take_piece.ensures.read
