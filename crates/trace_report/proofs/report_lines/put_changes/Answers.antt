use Rattle.std.proofs.Common.{ℕ, subst, ◌∙◌}
use Rattle.std.proofs.lemmas.List.{get_or_default}
use Rattle.std.proofs.lemmas.Result.{err_from_is_err_and}
use Rattle.tab_io.specs.Sinks.{Writes}
use Rattle.tab_words.proofs.NumberedTextLemmas.{none_written, next_written, next_broken}
use Rattle.vcpu_names.specs.Names.{names_of}
use Rattle.plan_book.specs.declared.outcome.Outcome.{Outcome}
use Rattle.plan_book.specs.declared.outcome.Outcome.TheVariants.{Planned}
use Rattle.trace_report.specs.ReportText.{change_at, change_line}
use Rattle.trace_report.proofs.report_lines.put_changes.Goals as goal

pub loop-k-init : goal.loop-k-init
loop-k-init g c = none_written _ _ (tt {0})

pub returns-in_err-put_change : goal.returns-in_err-put_change
returns-in_err-put_change g c =
    let p = err_from_is_err_and c.from_residual.result c.from_residual.ensures.1 in
    let changes = c.args.changes.now in
    let names = names_of c.args.vcpus.now in
    rw p.1
    (next_broken _ _ _ (change_at names changes) c.loop-k.k _
    (tt {0}) _ c.in_err-put_change.field-0.0 c.loop-k-test.true c.loop-k.invariant
    (subst (λ (t : ℕ × Outcome). Writes {U = Unit {0}} (g.K.Sink.state c.loop-k.sink)
    (g.K.Sink.state c.put_change.new.sink) (change_line names c.loop-k.k t.0 t.1) c.put_change.result)
    (c.index-changes-k.is ∙ get_or_default changes c.loop-k.k c.index-changes-k.result (0, Planned)
    c.loop-k-test.true) c.put_change.ensures)
    c.in_err-put_change.was)

pub loop-k-preserved : goal.loop-k-preserved
loop-k-preserved g c =
    let changes = c.args.changes.now in
    let names = names_of c.args.vcpus.now in
    next_written _ _ _ (change_at names changes) c.loop-k.k
    (tt {0}) c.in_ok-put_change.field-0 _ c.loop-k.invariant
    (subst (λ (t : ℕ × Outcome). Writes {U = Unit {0}} (g.K.Sink.state c.loop-k.sink)
    (g.K.Sink.state c.put_change.new.sink) (change_line names c.loop-k.k t.0 t.1) c.put_change.result)
    (c.index-changes-k.is ∙ get_or_default changes c.loop-k.k c.index-changes-k.result (0, Planned)
    c.loop-k-test.true) c.put_change.ensures)
    c.in_ok-put_change.was
