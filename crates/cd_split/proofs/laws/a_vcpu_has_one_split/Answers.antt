use Rattle.cd_split.proofs.Unique.{one_split}
use Rattle.cd_split.proofs.laws.a_vcpu_has_one_split.Goals as goal

pub returns : goal.returns
returns c = one_split
