use Rattle.script_doc.proofs.OneStepList.{bad_or_steps}
use Rattle.script_doc.proofs.laws.a_step_list_has_no_bad_line.Goals as goal

pub returns : goal.returns
returns c = λ cores bytes steps lines line are bad. bad_or_steps cores _ line steps lines bad are
