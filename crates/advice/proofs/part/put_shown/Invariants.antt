use Rattle.std.proofs.Common.{take, flat_map, Ok}
use Rattle.tab_io.specs.Sinks.{Writes}
use Rattle.advice.specs.Parts.{shown_byte}
use Rattle.advice.proofs.part.put_shown.Given as goal

-- the bytes so far came
abbrev pub invariant-loop-byte : goal.invariant-loop-byte
invariant-loop-byte g l = Writes {U = Unit {0}} (g.K.Sink.state l.fn.sink) (g.K.Sink.state l.sink)
    (flat_map shown_byte (take l.byte-index l.bytes)) (Ok (tt {0}))
