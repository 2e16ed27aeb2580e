use Rattle.std.proofs.Common.{Ok}
use Rattle.tab_io.specs.Sinks.{Writes}
use Rattle.tab_words.specs.Texts.{texts_below}
use Rattle.vcpu_names.specs.Names.{names_of}
use Rattle.trace_report.specs.ReportText.{change_at}
use Rattle.trace_report.proofs.report_lines.put_changes.Given as goal

-- the lines so far came
abbrev pub invariant-loop-k : goal.invariant-loop-k
invariant-loop-k g l = Writes {U = Unit {0}} (g.K.Sink.state l.fn.sink) (g.K.Sink.state l.sink)
    (texts_below (change_at (names_of l.vcpus) l.changes) l.k) (Ok (tt {0}))
