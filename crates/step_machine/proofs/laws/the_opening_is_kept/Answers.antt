use Rattle.step_machine.proofs.RunLemmas.{opening_kept}
use Rattle.step_machine.proofs.laws.the_opening_is_kept.Goals as goal

pub returns : goal.returns
returns c = opening_kept
