use Rattle.script_doc.proofs.EventsLemmas.{distinct_names}
use Rattle.script_doc.proofs.OneScript.{fault_or_script}
use Rattle.script_doc.proofs.laws.a_script_has_no_fault.Goals as goal

pub returns : goal.returns
returns c = λ vcpus rounds bytes events fault distinct script first.
    fault_or_script _ rounds _ fault events (distinct_names vcpus distinct) first script
