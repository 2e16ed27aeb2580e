use Rattle.cd_split.proofs.Unique.{one_refusal}
use Rattle.cd_split.proofs.laws.a_vcpu_has_one_refusal.Goals as goal

pub returns : goal.returns
returns c = one_refusal
