use Rattle.tab_core.proofs.Bits.{members_put}
use Rattle.tab_core.proofs.vcpu_set.set_bit.Goals as goal

pub returns : goal.returns
returns c = members_put _ _ c.told-words c.requires
