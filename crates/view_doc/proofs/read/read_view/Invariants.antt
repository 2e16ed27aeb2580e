use Rattle.view_doc.proofs.ReadLemmas.{AreRead}
use Rattle.view_doc.proofs.read.read_view.Given as goal

abbrev pub invariant-loop-line : goal.invariant-loop-line
invariant-loop-line l = AreRead l.bytes l.number l.reader l.line-iterator
