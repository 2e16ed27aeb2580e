use Rattle.plan_make.proofs.OnePlan.{planned_unique}
use Rattle.plan_make.proofs.laws.a_host_has_one_plan.Goals as goal

pub returns : goal.returns
returns c = planned_unique
