use Rattle.std.proofs.Common.{Ok}
use Rattle.tab_io.specs.Sinks.{Writes}
use Rattle.tab_words.specs.Texts.{texts_below}
use Rattle.view_text.specs.TextCharts.{lane_line_at}
use Rattle.view_text.proofs.text_chart.put_lines.Given as goal

-- the texts so far came
abbrev pub invariant-loop-i : goal.invariant-loop-i
invariant-loop-i g l = Writes {U = Unit {0}} (g.K.Sink.state l.fn.sink) (g.K.Sink.state l.sink)
    (texts_below (lane_line_at l.frame l.columns l.vcpus l.first l.lanes) l.i) (Ok (tt {0}))
