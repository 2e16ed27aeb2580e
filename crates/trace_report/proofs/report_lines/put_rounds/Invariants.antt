use Rattle.std.proofs.Common.{take, flat_map, Ok}
use Rattle.tab_io.specs.Sinks.{Writes}
use Rattle.trace_report.specs.ReportText.{round_line}
use Rattle.trace_report.proofs.report_lines.put_rounds.Given as goal

-- the lines so far came
abbrev pub invariant-loop-one : goal.invariant-loop-one
invariant-loop-one g l = Writes {U = Unit {0}} (g.K.Sink.state l.fn.sink) (g.K.Sink.state l.sink)
    (flat_map round_line (take l.one-index l.plans)) (Ok (tt {0}))
