use Rattle.std.proofs.Common.{subst}
use Rattle.tab_io.specs.Sinks.{Writes}
use Rattle.tab_words.proofs.PieceLemmas.{pieces_last, pieces_broken}
use Rattle.view_doc.specs.declared.view.Entry.{Entry}
use Rattle.view_export.specs.Json.{entry_row}
use Rattle.view_export.proofs.json.put_entries.Goals as goal

pub returns-in-Err : goal.returns-in-Err
returns-in-Err g c =
    let line = entry_row in
    let came = subst (λ (one : Entry). Writes {U = Unit {0}} (g.K.Sink.state c.loop-entry.sink)
    (g.K.Sink.state c.put_entry.new.sink) (line one) c.put_entry.result) c.entry-item.is c.put_entry.ensures in
    pieces_broken _ _ _ line c.args.entries.now c.loop-entry.entry-index c.entry-item.result
    (tt {0}) _ c.in-Err.fault c.loop-entry-test.true c.loop-entry.invariant came c.in-Err.is

pub loop-entry-preserved : goal.loop-entry-preserved
loop-entry-preserved g c =
    let line = entry_row in
    let came = subst (λ (one : Entry). Writes {U = Unit {0}} (g.K.Sink.state c.loop-entry.sink)
    (g.K.Sink.state c.put_entry.new.sink) (line one) c.put_entry.result) c.entry-item.is c.put_entry.ensures in
    pieces_last _ _ _ line c.args.entries.now c.loop-entry.entry-index c.entry-item.result
    (tt {0}) c.in_default.field-0 _ c.loop-entry-test.true c.loop-entry.invariant came c.in_default.is
