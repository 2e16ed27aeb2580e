use Rattle.worst_fit.proofs.KeptPlacement.{placement_kept}
use Rattle.worst_fit.proofs.laws.a_whole_placement_stays.Goals as goal

pub returns : goal.returns
returns c = placement_kept
