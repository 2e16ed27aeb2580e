use Rattle.tableau_sim.proofs.GenPlans.{gen_text_is_planned, gen_text_is_short}
use Rattle.tableau_sim.proofs.laws.a_generated_host_is_planned.Goals as goal

pub returns-clause-planned : goal.returns-clause-planned
returns-clause-planned c seed cores vcpus input text = gen_text_is_planned seed cores vcpus text

pub returns-clause-short : goal.returns-clause-short
returns-clause-short c seed cores vcpus input text = gen_text_is_short seed cores vcpus text
