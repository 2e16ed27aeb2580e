use Rattle.std.proofs.Common.{Ok}
use Rattle.tab_io.specs.Sinks.{Writes}
use Rattle.tab_words.specs.Texts.{texts_below}
use Rattle.view_schedulers.specs.Lines.{cpu_word}
use Rattle.view_schedulers.proofs.lines.put_cpus.Given as goal

-- the CPUs so far came
abbrev pub invariant-loop-core : goal.invariant-loop-core
invariant-loop-core g l = Writes {U = Unit {0}} (g.K.Sink.state l.fn.sink) (g.K.Sink.state l.sink)
    (texts_below (cpu_word l.cpus) l.core) (Ok (tt {0}))
