use Rattle.std.proofs.Common.{rules}
use Rattle.tab_core.proofs.Bits.{common_bits}
use Rattle.tab_core.proofs.vcpu_set.common_from.Goals as goal

pub returns : goal.returns
returns c = λ i low. common_bits c.args.a.now c.args.b.now c.args.bit i c.requires low (search rules)
