use Rattle.sizes_doc.proofs.TwiceLemmas.{AreNew}
use Rattle.sizes_doc.proofs.twice.first_twice.Given as goal

abbrev pub invariant-loop-index : goal.invariant-loop-index
invariant-loop-index l = AreNew l.vcpus l.index l.names
