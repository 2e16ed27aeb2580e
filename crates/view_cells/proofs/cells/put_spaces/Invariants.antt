use Rattle.std.proofs.Common.{Ok}
use Rattle.tab_io.specs.Sinks.{Writes}
use Rattle.tab_words.specs.Texts.{texts_below}
use Rattle.std.proofs.Common.{codes}
use Rattle.view_cells.proofs.cells.put_spaces.Given as goal

-- the texts so far came
abbrev pub invariant-loop-space : goal.invariant-loop-space
invariant-loop-space g l = Writes {U = Unit {0}} (g.K.Sink.state l.fn.sink) (g.K.Sink.state l.sink)
    (texts_below (λ _. codes " ") l.space) (Ok (tt {0}))
