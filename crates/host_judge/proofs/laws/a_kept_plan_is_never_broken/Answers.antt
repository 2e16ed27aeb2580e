use Rattle.host_judge.proofs.OwedLemmas.{kept_plan}
use Rattle.host_judge.proofs.laws.a_kept_plan_is_never_broken.Goals as goal

pub returns : goal.returns
returns c = λ course window time begin start end by keeps is.
    kept_plan course window time begin start end by by.some keeps is
