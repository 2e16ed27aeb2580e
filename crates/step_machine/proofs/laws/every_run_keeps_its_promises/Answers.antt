use Rattle.table_form.specs.Running.State.{opening}
use Rattle.run_promises.proofs.PromiseLemmas.{promised}
use Rattle.step_machine.proofs.RunLemmas.{leads_keep, opening_kept}
use Rattle.step_machine.proofs.laws.every_run_keeps_its_promises.Goals as goal

pub returns : goal.returns
returns c = λ course rounds steps end ok leads. promised course rounds end ok
    (leads_keep course rounds (opening course.cores) steps end ok leads
    (opening_kept course rounds))
