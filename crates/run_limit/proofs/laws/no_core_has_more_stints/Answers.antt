use Rattle.run_limit.proofs.StintBoundLemmas.{few_stints}
use Rattle.run_limit.proofs.laws.no_core_has_more_stints.Goals as goal

pub returns : goal.returns
returns c = few_stints
