use Rattle.view_schedulers.proofs.FitLemmas.{fits}
use Rattle.view_schedulers.proofs.laws.an_exact_fit_is_not_overbooked.Goals as goal

pub returns : goal.returns
returns c = fits
