use Rattle.std.proofs.Common.{Ok}
use Rattle.tab_io.specs.Sinks.{Writes}
use Rattle.tab_words.specs.Texts.{texts_below}
use Rattle.vcpu_names.specs.Names.{names_of, name_at}
use Rattle.trace_report.specs.ReportText.{vcpu_line}
use Rattle.trace_report.specs.ReportViews.{vcpu_at}
use Rattle.trace_report.proofs.report_lines.put_vcpus.Given as goal

-- the lines so far came
abbrev pub invariant-loop-v : goal.invariant-loop-v
invariant-loop-v g l = Writes {U = Unit {0}} (g.K.Sink.state l.fn.sink) (g.K.Sink.state l.sink)
    (texts_below (λ v. vcpu_line (name_at (names_of l.vcpus) v) (vcpu_at l.ticks v)) l.v) (Ok (tt {0}))
