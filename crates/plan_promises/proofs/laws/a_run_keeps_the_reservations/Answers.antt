use Rattle.plan_promises.proofs.RunsLemmas.{run_keeps}
use Rattle.plan_promises.proofs.laws.a_run_keeps_the_reservations.Goals as goal

pub returns : goal.returns
returns c = run_keeps
