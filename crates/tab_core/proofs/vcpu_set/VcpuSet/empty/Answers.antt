use Rattle.tab_core.proofs.Bits.{empty_members}
use Rattle.tab_core.proofs.vcpu_set.VcpuSet.empty.Goals as goal

pub returns : goal.returns
returns c = empty_members
