use Rattle.std.proofs.Common.{rules}
use Rattle.tab_core.proofs.Bits.{members_less}
use Rattle.tab_core.proofs.vcpu_set.bits_without.Goals as goal

pub returns : goal.returns
returns c = λ vcpu. members_less c.args.a.now c.args.b.now vcpu (λ i. search rules)
