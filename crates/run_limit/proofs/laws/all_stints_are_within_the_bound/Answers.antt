use Rattle.run_limit.proofs.StintBoundLemmas.{all_stints}
use Rattle.run_limit.proofs.laws.all_stints_are_within_the_bound.Goals as goal

pub returns : goal.returns
returns c = all_stints
