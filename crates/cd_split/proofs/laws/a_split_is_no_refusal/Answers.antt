use Rattle.cd_split.proofs.Unique.{split_or_refused}
use Rattle.cd_split.proofs.laws.a_split_is_no_refusal.Goals as goal

pub returns : goal.returns
returns c = split_or_refused
