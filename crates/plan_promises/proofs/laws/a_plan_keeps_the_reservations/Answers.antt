use Rattle.plan_promises.proofs.ReservationsLemmas.{kept_by_plan}
use Rattle.plan_promises.proofs.laws.a_plan_keeps_the_reservations.Goals as goal

pub returns : goal.returns
returns c = kept_by_plan
