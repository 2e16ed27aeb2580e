use Rattle.fleet_place.proofs.OneAnswerLemmas.{never_both}
use Rattle.fleet_place.proofs.laws.fit_or_not.Goals as goal

pub returns : goal.returns
returns c = never_both
