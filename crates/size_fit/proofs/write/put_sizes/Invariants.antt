use Rattle.std.proofs.Common.{take, flat_map, Ok}
use Rattle.tab_io.specs.Sinks.{Writes}
use Rattle.size_fit.specs.FitText.{size_row}
use Rattle.size_fit.proofs.write.put_sizes.Given as goal

-- the rows so far came
abbrev pub invariant-loop-room : goal.invariant-loop-room
invariant-loop-room g l = Writes {U = Unit {0}} (g.K.Sink.state l.fn.sink) (g.K.Sink.state l.sink)
    (flat_map size_row (take l.room-index l.rooms)) (Ok (tt {0}))
