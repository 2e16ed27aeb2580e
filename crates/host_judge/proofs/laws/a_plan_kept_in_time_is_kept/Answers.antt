use Rattle.host_judge.proofs.OwedLemmas.{kept_in_time}
use Rattle.host_judge.proofs.laws.a_plan_kept_in_time_is_kept.Goals as goal

pub returns : goal.returns
returns c = kept_in_time
