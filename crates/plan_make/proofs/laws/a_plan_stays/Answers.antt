use Rattle.plan_make.proofs.OnePlan.{staying_or_refused, staying_unique}
use Rattle.plan_make.proofs.StayingHomes.{plan_kept}
use Rattle.plan_make.proofs.laws.a_plan_stays.Goals as goal

pub returns-clause-one : goal.returns-clause-one
returns-clause-one c = staying_unique

pub returns-clause-room : goal.returns-clause-room
returns-clause-room c = staying_or_refused

pub returns-clause-kept : goal.returns-clause-kept
returns-clause-kept c = plan_kept
