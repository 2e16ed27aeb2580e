use Rattle.std.proofs.Common.{take, flat_map, Ok}
use Rattle.tab_io.specs.Sinks.{Writes}
use Rattle.run_trace.specs.RunTraces.{waits_line}
use Rattle.run_trace.proofs.write.put_waits.Given as goal

-- the lines so far came
abbrev pub invariant-loop-ran : goal.invariant-loop-ran
invariant-loop-ran g l = Writes {U = Unit {0}} (g.K.Sink.state l.fn.sink) (g.K.Sink.state l.sink)
    (flat_map waits_line (take l.ran-index l.vcpus)) (Ok (tt {0}))
