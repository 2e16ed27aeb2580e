use Rattle.std.proofs.Common.{Ok}
use Rattle.tab_io.specs.Sinks.{Writes}
use Rattle.tab_words.specs.Texts.{texts_below}
use Rattle.fleet_place.specs.FleetText.{host_row}
use Rattle.fleet_place.proofs.write.put_rows.Given as goal

-- the texts so far came
abbrev pub invariant-loop-number : goal.invariant-loop-number
invariant-loop-number g l = Writes {U = Unit {0}} (g.K.Sink.state l.fn.sink) (g.K.Sink.state l.sink)
    (texts_below (host_row l.hosts l.splits) l.number) (Ok (tt {0}))
