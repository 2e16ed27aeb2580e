use Rattle.std.proofs.Common.{Ok}
use Rattle.tab_io.specs.Sinks.{Writes}
use Rattle.tab_words.specs.Texts.{texts_below}
use Rattle.trace_report.specs.ReportText.{core_line}
use Rattle.trace_report.specs.ReportViews.{core_ticks_at}
use Rattle.trace_report.proofs.report_lines.put_cores.Given as goal

-- the lines so far came
abbrev pub invariant-loop-c : goal.invariant-loop-c
invariant-loop-c g l = Writes {U = Unit {0}} (g.K.Sink.state l.fn.sink) (g.K.Sink.state l.sink)
    (texts_below (λ c. core_line c (core_ticks_at l.cores c)) l.c) (Ok (tt {0}))
