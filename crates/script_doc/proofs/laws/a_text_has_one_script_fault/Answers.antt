use Rattle.script_doc.proofs.EventsLemmas.{distinct_names}
use Rattle.script_doc.proofs.OneScript.{one_fault}
use Rattle.script_doc.proofs.laws.a_text_has_one_script_fault.Goals as goal

pub returns : goal.returns
returns c = λ vcpus rounds bytes fault other distinct.
    one_fault _ rounds _ fault other (distinct_names vcpus distinct)
