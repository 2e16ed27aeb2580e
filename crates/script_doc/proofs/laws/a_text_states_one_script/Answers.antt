use Rattle.script_doc.proofs.EventsLemmas.{distinct_names}
use Rattle.script_doc.proofs.OneScript.{one_script}
use Rattle.script_doc.proofs.laws.a_text_states_one_script.Goals as goal

pub returns : goal.returns
returns c = λ vcpus rounds bytes events others distinct.
    one_script _ rounds _ events others (distinct_names vcpus distinct)
