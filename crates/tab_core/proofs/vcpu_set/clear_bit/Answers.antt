use Rattle.tab_core.proofs.Bits.{members_take}
use Rattle.tab_core.proofs.vcpu_set.clear_bit.Goals as goal

pub returns : goal.returns
returns c = members_take _ _ c.told-words c.requires
