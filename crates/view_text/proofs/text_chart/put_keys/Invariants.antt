use Rattle.std.proofs.Common.{Ok}
use Rattle.tab_io.specs.Sinks.{Writes}
use Rattle.tab_words.specs.Texts.{texts_below}
use Rattle.view_text.specs.TextCharts.{letter_key_at}
use Rattle.view_text.proofs.text_chart.put_keys.Given as goal

-- the texts so far came
abbrev pub invariant-loop-v : goal.invariant-loop-v
invariant-loop-v g l = Writes {U = Unit {0}} (g.K.Sink.state l.fn.sink) (g.K.Sink.state l.sink)
    (texts_below (letter_key_at l.names) l.v) (Ok (tt {0}))
