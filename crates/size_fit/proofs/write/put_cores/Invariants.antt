use Rattle.std.proofs.Common.{Ok}
use Rattle.tab_io.specs.Sinks.{Writes}
use Rattle.tab_words.specs.Texts.{texts_below}
use Rattle.size_fit.specs.FitText.{fit_core_row}
use Rattle.size_fit.proofs.write.put_cores.Given as goal

-- the rows so far came
abbrev pub invariant-loop-core : goal.invariant-loop-core
invariant-loop-core g l = Writes {U = Unit {0}} (g.K.Sink.state l.fn.sink) (g.K.Sink.state l.sink)
    (texts_below (fit_core_row l.loads) l.core) (Ok (tt {0}))
