use Rattle.tableau_sim.proofs.PlanChecks.{plan_stays, stay_stays, whole_stays}
use Rattle.tableau_sim.proofs.laws.a_plan_is_kept.Goals as goal

pub returns-clause-plan : goal.returns-clause-plan
returns-clause-plan c = plan_stays

pub returns-clause-stay : goal.returns-clause-stay
returns-clause-stay c = stay_stays

pub returns-clause-whole : goal.returns-clause-whole
returns-clause-whole c = whole_stays
