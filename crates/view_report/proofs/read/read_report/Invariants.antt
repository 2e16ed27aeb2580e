use Rattle.view_report.proofs.ReadLemmas.{AreLinesRead}
use Rattle.view_report.proofs.read.read_report.Given as goal

-- the lines so far were read
abbrev pub invariant-loop-line : goal.invariant-loop-line
invariant-loop-line l = AreLinesRead l.bytes l.number l.reader l.line-iterator
