use Rattle.tableau_sim.proofs.OneOutcome.{one_outcome, one_refusal}
use Rattle.tableau_sim.proofs.laws.an_input_has_one_outcome.Goals as goal

pub returns-clause-one : goal.returns-clause-one
returns-clause-one c = one_outcome

pub returns-clause-refusal : goal.returns-clause-refusal
returns-clause-refusal c = one_refusal
