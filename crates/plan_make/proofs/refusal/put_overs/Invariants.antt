use Rattle.std.proofs.Common.{take, flat_map, Ok}
use Rattle.tab_io.specs.Sinks.{Writes}
use Rattle.plan_make.specs.Refusal.{over_text}
use Rattle.plan_make.proofs.refusal.put_overs.Given as goal

-- the intervals so far came
abbrev pub invariant-loop-over : goal.invariant-loop-over
invariant-loop-over g l = Writes {U = Unit {0}} (g.K.Sink.state l.fn.sink) (g.K.Sink.state l.sink)
    (flat_map over_text (take l.over-index l.overs)) (Ok (tt {0}))
