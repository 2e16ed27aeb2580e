use Rattle.std.proofs.Common.{take, flat_map, Ok}
use Rattle.tab_io.specs.Sinks.{Writes}
use Rattle.view_export.specs.Json.{stretch_row}
use Rattle.view_export.proofs.json.put_stretches.Given as goal

-- the lines so far came
abbrev pub invariant-loop-stretch : goal.invariant-loop-stretch
invariant-loop-stretch g l = Writes {U = Unit {0}} (g.K.Sink.state l.fn.sink) (g.K.Sink.state l.sink)
    (flat_map (stretch_row l.names) (take l.stretch-index l.stretches)) (Ok (tt {0}))
