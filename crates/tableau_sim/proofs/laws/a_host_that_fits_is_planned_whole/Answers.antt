use Rattle.tableau_sim.proofs.BoundsLemmas.{fitting_is_faultless}
use Rattle.tableau_sim.proofs.laws.a_host_that_fits_is_planned_whole.Goals as goal

pub returns : goal.returns
returns c = fitting_is_faultless
