use Rattle.script_doc.proofs.OneStepList.{one_bad_line}
use Rattle.script_doc.proofs.laws.a_text_has_one_bad_step.Goals as goal

pub returns : goal.returns
returns c = λ cores bytes. one_bad_line cores _
