use Rattle.std.proofs.Common.{Ok}
use Rattle.tab_io.specs.Sinks.{Writes}
use Rattle.tab_words.specs.Texts.{texts_below}
use Rattle.view_chart.specs.Traces.{ns_number}
use Rattle.view_chart.proofs.trace_axis.put_ns_numbers.Given as goal

-- the texts so far came
abbrev pub invariant-loop-k : goal.invariant-loop-k
invariant-loop-k g l = Writes {U = Unit {0}} (g.K.Sink.state l.fn.sink) (g.K.Sink.state l.sink)
    (texts_below (ns_number l.frame l.y) l.k) (Ok (tt {0}))
