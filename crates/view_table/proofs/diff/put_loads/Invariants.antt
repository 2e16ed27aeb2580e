use Rattle.std.proofs.Common.{Ok}
use Rattle.tab_io.specs.Sinks.{Writes}
use Rattle.tab_words.specs.Texts.{texts_below}
use Rattle.view_table.specs.Diff.{load_lines}
use Rattle.view_table.proofs.diff.put_loads.Given as goal

-- the texts so far came
abbrev pub invariant-loop-core : goal.invariant-loop-core
invariant-loop-core g l = Writes {U = Unit {0}} (g.K.Sink.state l.fn.sink) (g.K.Sink.state l.sink)
    (texts_below (load_lines l.old l.new) l.core) (Ok (tt {0}))
