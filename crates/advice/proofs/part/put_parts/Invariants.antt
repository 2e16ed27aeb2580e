use Rattle.std.proofs.Common.{take, flat_map, Ok}
use Rattle.tab_io.specs.Sinks.{Writes}
use Rattle.advice.specs.Parts.{part_text}
use Rattle.advice.proofs.part.put_parts.Given as goal

-- the parts so far came
abbrev pub invariant-loop-part : goal.invariant-loop-part
invariant-loop-part g l = Writes {U = Unit {0}} (g.K.Sink.state l.fn.sink) (g.K.Sink.state l.sink)
    (flat_map part_text (take l.part-index l.parts)) (Ok (tt {0}))
