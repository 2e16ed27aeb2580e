use Rattle.step_machine.proofs.InvariantLemmas.{moves_keep}
use Rattle.step_machine.proofs.laws.a_step_keeps.Goals as goal

pub returns : goal.returns
returns c = λ course rounds old new step ok kept moves. moves_keep course rounds old step new ok moves kept
