use Rattle.run_limit.proofs.OneBound.{one_bound}
use Rattle.run_limit.proofs.laws.a_course_has_one_bound.Goals as goal

pub returns : goal.returns
returns c = one_bound
