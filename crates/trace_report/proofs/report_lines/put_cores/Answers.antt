use Rattle.std.proofs.Common.{ℕ, subst}
use Rattle.std.proofs.lemmas.List.{get_or_default}
use Rattle.std.proofs.lemmas.Result.{err_from_is_err_and}
use Rattle.tab_io.specs.Sinks.{Writes}
use Rattle.tab_words.proofs.NumberedTextLemmas.{none_written, next_written, next_broken, all_written}
use Rattle.trace_report.specs.ReportText.{core_line}
use Rattle.trace_report.specs.ReportViews.{core_ticks_at, no_core_ticks}
use Rattle.trace_report.specs.declared.ticks.CoreTicks.{CoreTicks}
use Rattle.trace_report.proofs.report_lines.put_cores.Goals as goal

pub loop-c-init : goal.loop-c-init
loop-c-init g c = none_written _ _ (tt {0})

pub returns-in_err-put_core : goal.returns-in_err-put_core
returns-in_err-put_core g c =
    let p = err_from_is_err_and c.from_residual.result c.from_residual.ensures.1 in
    let cores = c.args.cores.now in
    rw p.1
    (next_broken _ _ _ (λ (k : ℕ). core_line k (core_ticks_at cores k)) c.loop-c.c _
    (tt {0}) _ c.in_err-put_core.field-0.0 c.loop-c-test.true c.loop-c.invariant
    (subst (λ (t : CoreTicks). Writes {U = Unit {0}} (g.K.Sink.state c.loop-c.sink)
    (g.K.Sink.state c.put_core.new.sink) (core_line c.loop-c.c t) c.put_core.result)
    (get_or_default cores c.loop-c.c _ no_core_ticks c.loop-c-test.true) c.put_core.ensures)
    c.in_err-put_core.was)

pub loop-c-preserved : goal.loop-c-preserved
loop-c-preserved g c =
    let cores = c.args.cores.now in
    next_written _ _ _ (λ (k : ℕ). core_line k (core_ticks_at cores k)) c.loop-c.c
    (tt {0}) c.in_ok-put_core.field-0 _ c.loop-c.invariant
    (subst (λ (t : CoreTicks). Writes {U = Unit {0}} (g.K.Sink.state c.loop-c.sink)
    (g.K.Sink.state c.put_core.new.sink) (core_line c.loop-c.c t) c.put_core.result)
    (get_or_default cores c.loop-c.c _ no_core_ticks c.loop-c-test.true) c.put_core.ensures)
    c.in_ok-put_core.was

pub returns : goal.returns
returns g c = all_written _ _ (λ (k : ℕ). core_line k (core_ticks_at c.args.cores.now k)) c.loop-c.c _
    (tt {0}) c.loop-c.auto.c-end c.loop-c-test.false c.loop-c.invariant
