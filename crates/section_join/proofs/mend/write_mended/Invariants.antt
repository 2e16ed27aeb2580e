use Rattle.std.proofs.Common.{flat_map}
use Rattle.tab_io.specs.Sinks.{IsLeft}
use Rattle.section_join.specs.Mended.{mended, mended_line}
use Rattle.section_join.proofs.mend.write_mended.Given as goal

-- the lines that are left are to be written
abbrev pub invariant-loop-line : goal.invariant-loop-line
invariant-loop-line g l = IsLeft (g.K.Sink.state l.fn.sink) (g.K.Sink.state l.sink) (mended l.bytes)
    (flat_map mended_line l.line-iterator)
