use Rattle.line_bytes.proofs.TailLemmas.{name_fits}
use Rattle.line_bytes.proofs.tails.vcpu_tail.Goals as goal

pub tail_of-requires : goal.tail_of-requires
tail_of-requires c = rw c.bytes.ensures.same (name_fits _ c.bytes.ensures.good)
