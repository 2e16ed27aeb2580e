use Rattle.plan_promises.proofs.RunPromisesLemmas.{run_promises}
use Rattle.plan_promises.proofs.laws.a_whole_run_is_as_promised.Goals as goal

pub returns : goal.returns
returns c = run_promises
