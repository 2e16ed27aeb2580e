use Rattle.std.proofs.Common.{subst}
use Rattle.tab_io.specs.Sinks.{Writes}
use Rattle.tab_words.proofs.PieceLemmas.{pieces_last, pieces_broken}
use Rattle.view_doc.specs.declared.view.Stretch.{Stretch}
use Rattle.view_export.specs.Chrome.{stretch_event}
use Rattle.view_export.proofs.chrome.put_stretches.Goals as goal

pub returns-in-Err : goal.returns-in-Err
returns-in-Err g c =
    let line = stretch_event c.args.tick_ns c.args.names.now in
    let came = subst (λ (one : Stretch). Writes {U = Unit {0}} (g.K.Sink.state c.loop-stretch.sink)
    (g.K.Sink.state c.put_stretch.new.sink) (line one) c.put_stretch.result) c.stretch-item.is c.put_stretch.ensures in
    pieces_broken _ _ _ line c.args.stretches.now c.loop-stretch.stretch-index c.stretch-item.result
    (tt {0}) _ c.in-Err.fault c.loop-stretch-test.true c.loop-stretch.invariant came c.in-Err.is

pub loop-stretch-preserved : goal.loop-stretch-preserved
loop-stretch-preserved g c =
    let line = stretch_event c.args.tick_ns c.args.names.now in
    let came = subst (λ (one : Stretch). Writes {U = Unit {0}} (g.K.Sink.state c.loop-stretch.sink)
    (g.K.Sink.state c.put_stretch.new.sink) (line one) c.put_stretch.result) c.stretch-item.is c.put_stretch.ensures in
    pieces_last _ _ _ line c.args.stretches.now c.loop-stretch.stretch-index c.stretch-item.result
    (tt {0}) c.in_default.field-0 _ c.loop-stretch-test.true c.loop-stretch.invariant came c.in_default.is
