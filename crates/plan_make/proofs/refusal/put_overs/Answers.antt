use Rattle.std.proofs.Common.{subst}
use Rattle.tab_core.specs.declared.over.Over.{Over}
use Rattle.tab_io.specs.Sinks.{Writes}
use Rattle.plan_make.specs.Refusal.{over_text}
use Rattle.tab_words.proofs.PieceLemmas.{pieces_last, pieces_broken}
use Rattle.plan_make.proofs.refusal.put_overs.Goals as goal

pub returns-in-Err : goal.returns-in-Err
returns-in-Err g c =
    let came =
    subst (λ (o : Over). Writes {U = Unit {0}} (g.K.Sink.state c.loop-over.sink)
    (g.K.Sink.state c.put_over.new.sink) (over_text o) c.put_over.result) c.over-item.is
    c.put_over.ensures in
    pieces_broken _ _ _ over_text c.args.overs.now c.loop-over.over-index c.over-item.result
    (tt {0}) _ c.in-Err.fault c.loop-over-test.true c.loop-over.invariant came c.in-Err.is

pub loop-over-preserved : goal.loop-over-preserved
loop-over-preserved g c =
    let came =
    subst (λ (o : Over). Writes {U = Unit {0}} (g.K.Sink.state c.loop-over.sink)
    (g.K.Sink.state c.put_over.new.sink) (over_text o) c.put_over.result) c.over-item.is
    c.put_over.ensures in
    pieces_last _ _ _ over_text c.args.overs.now c.loop-over.over-index c.over-item.result
    (tt {0}) c.in_default.field-0 _ c.loop-over-test.true c.loop-over.invariant came
    c.in_default.is
