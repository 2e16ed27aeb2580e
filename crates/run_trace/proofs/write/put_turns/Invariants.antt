use Rattle.std.proofs.Common.{take, flat_map, Ok}
use Rattle.tab_io.specs.Sinks.{Writes}
use Rattle.run_trace.specs.RunTraces.{turn_line}
use Rattle.run_trace.proofs.write.put_turns.Given as goal

-- the lines so far came
abbrev pub invariant-loop-turn : goal.invariant-loop-turn
invariant-loop-turn g l = Writes {U = Unit {0}} (g.K.Sink.state l.fn.sink) (g.K.Sink.state l.sink)
    (flat_map (turn_line l.names l.tick_ns) (take l.turn-index l.turns)) (Ok (tt {0}))
