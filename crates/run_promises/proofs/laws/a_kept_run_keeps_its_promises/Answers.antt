use Rattle.run_promises.proofs.PromiseLemmas.{promised}
use Rattle.run_promises.proofs.laws.a_kept_run_keeps_its_promises.Goals as goal

pub returns : goal.returns
returns c = promised
