use Rattle.std.proofs.Common.{ℕ, subst, arith}
use Rattle.std.proofs.lemmas.List.{get_or_default}
use Rattle.std.proofs.lemmas.Result.{err_from_is_err_and}
use Rattle.tab_io.specs.Sinks.{Writes}
use Rattle.tab_words.proofs.NumberedTextLemmas.{none_written, next_written, next_broken, all_written}
use Rattle.vcpu_names.specs.Names.{name_at, names_of}
use Rattle.vcpu_names.proofs.NamesLemmas.{name_here}
use Rattle.trace_report.specs.ReportText.{vcpu_line}
use Rattle.trace_report.specs.ReportViews.{vcpu_at, no_vcpu_ticks}
use Rattle.trace_report.specs.declared.ticks.VcpuTicks.{VcpuTicks}
use Rattle.trace_report.proofs.report_lines.put_vcpus.Goals as goal

pub loop-v-init : goal.loop-v-init
loop-v-init g c = none_written _ _ (tt {0})

pub returns-in_err-put_vcpu : goal.returns-in_err-put_vcpu
returns-in_err-put_vcpu g c =
    let p = err_from_is_err_and c.from_residual.result c.from_residual.ensures.1 in
    let vcpus = c.args.vcpus.now in
    let ticks = c.args.ticks.now in
    let name = name_here vcpus c.loop-v.v c.index-vcpus-v.result c.loop-v-test.true c.index-vcpus-v.is in
    rw p.1
    (next_broken _ _ _ (λ (k : ℕ). vcpu_line (name_at (names_of vcpus) k) (vcpu_at ticks k)) c.loop-v.v _
    (tt {0}) _ c.in_err-put_vcpu.field-0.0 c.loop-v-test.true c.loop-v.invariant
    (rw name
    (subst (λ (t : VcpuTicks). Writes {U = Unit {0}} (g.K.Sink.state c.loop-v.sink)
    (g.K.Sink.state c.put_vcpu.new.sink) (vcpu_line c.index-vcpus-v.result.name t) c.put_vcpu.result)
    (get_or_default ticks c.loop-v.v _ no_vcpu_ticks (omega (arith, c.loop-v-test.true, c.requires)))
    c.put_vcpu.ensures))
    c.in_err-put_vcpu.was)

pub loop-v-preserved : goal.loop-v-preserved
loop-v-preserved g c =
    let vcpus = c.args.vcpus.now in
    let ticks = c.args.ticks.now in
    let name = name_here vcpus c.loop-v.v c.index-vcpus-v.result c.loop-v-test.true c.index-vcpus-v.is in
    next_written _ _ _ (λ (k : ℕ). vcpu_line (name_at (names_of vcpus) k) (vcpu_at ticks k)) c.loop-v.v
    (tt {0}) c.in_ok-put_vcpu.field-0 _ c.loop-v.invariant
    (rw name
    (subst (λ (t : VcpuTicks). Writes {U = Unit {0}} (g.K.Sink.state c.loop-v.sink)
    (g.K.Sink.state c.put_vcpu.new.sink) (vcpu_line c.index-vcpus-v.result.name t) c.put_vcpu.result)
    (get_or_default ticks c.loop-v.v _ no_vcpu_ticks (omega (arith, c.loop-v-test.true, c.requires)))
    c.put_vcpu.ensures))
    c.in_ok-put_vcpu.was

pub returns : goal.returns
returns g c = all_written _ _
    (λ (k : ℕ). vcpu_line (name_at (names_of c.args.vcpus.now) k) (vcpu_at c.args.ticks.now k)) c.loop-v.v _
    (tt {0}) c.loop-v.auto.v-end c.loop-v-test.false c.loop-v.invariant
