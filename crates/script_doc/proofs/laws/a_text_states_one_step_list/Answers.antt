use Rattle.script_doc.proofs.OneStepList.{one_step_list}
use Rattle.script_doc.proofs.laws.a_text_states_one_step_list.Goals as goal

pub returns : goal.returns
returns c = λ cores bytes. one_step_list cores _
