use Rattle.host_doc.proofs.VcpusLemmas.{AreRead}
use Rattle.host_doc.proofs.vcpus.vcpus_of.Given as goal

abbrev pub invariant-loop-index : goal.invariant-loop-index
invariant-loop-index l = AreRead l.values l.index l.names l.vcpus.items
