use Rattle.sizes_doc.proofs.SizeLemmas.{AreRead}
use Rattle.sizes_doc.proofs.size_reader.read_sizes.Given as goal

abbrev pub invariant-loop-line : goal.invariant-loop-line
invariant-loop-line l = AreRead l.bytes l.number l.sizes.items l.line-iterator
