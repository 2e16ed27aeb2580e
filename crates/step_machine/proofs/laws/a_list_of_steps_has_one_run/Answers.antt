use Rattle.table_form.specs.Running.State.{opening}
use Rattle.step_machine.proofs.OneRun.{one_refused, one_trace, refused_or_leads}
use Rattle.step_machine.proofs.laws.a_list_of_steps_has_one_run.Goals as goal

pub returns-clause-run : goal.returns-clause-run
returns-clause-run c = λ course rounds. one_trace course rounds (opening course.cores)

pub returns-clause-refusal : goal.returns-clause-refusal
returns-clause-refusal c = one_refused

pub returns-clause-apart : goal.returns-clause-apart
returns-clause-apart c = refused_or_leads
