use Rattle.std.proofs.Common.{Ok}
use Rattle.tab_io.specs.Sinks.{Writes}
use Rattle.tab_words.specs.Texts.{texts_below}
use Rattle.view_chart.specs.Rounds.{count_mark_at}
use Rattle.view_chart.proofs.rounds.put_counts.Given as goal

-- the texts so far came
abbrev pub invariant-loop-k : goal.invariant-loop-k
invariant-loop-k g l = Writes {U = Unit {0}} (g.K.Sink.state l.fn.sink) (g.K.Sink.state l.sink)
    (texts_below (count_mark_at l.frame l.stretches l.foot) l.k) (Ok (tt {0}))
