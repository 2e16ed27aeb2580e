use Rattle.worst_fit.proofs.StayingLemmas.{none_stays}
use Rattle.worst_fit.proofs.laws.without_old_homes_all_move.Goals as goal

pub returns : goal.returns
returns c = none_stays
