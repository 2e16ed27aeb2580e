use Rattle.std.proofs.Common.{Ok}
use Rattle.tab_io.specs.Sinks.{Writes}
use Rattle.tab_words.specs.Texts.{texts_below}
use Rattle.view_report.specs.RunCsv.{core_ran_row}
use Rattle.view_report.proofs.csv.put_cores.Given as goal

-- the texts so far came
abbrev pub invariant-loop-number : goal.invariant-loop-number
invariant-loop-number g l = Writes {U = Unit {0}} (g.K.Sink.state l.fn.sink) (g.K.Sink.state l.sink)
    (texts_below (core_ran_row l.tick_ns l.cores) l.number) (Ok (tt {0}))
