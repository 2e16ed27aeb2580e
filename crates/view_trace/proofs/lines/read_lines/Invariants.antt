use Rattle.view_trace.proofs.ReadLemmas.{AreRead}
use Rattle.view_trace.proofs.lines.read_lines.Given as goal

-- the lines so far were read
abbrev pub invariant-loop-line : goal.invariant-loop-line
invariant-loop-line l = AreRead l.bytes l.number l.reading l.line-iterator
