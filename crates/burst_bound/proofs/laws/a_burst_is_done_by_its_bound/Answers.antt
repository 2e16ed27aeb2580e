use Rattle.burst_bound.proofs.BoundLemmas.{burst_done}
use Rattle.burst_bound.proofs.laws.a_burst_is_done_by_its_bound.Goals as goal

pub returns : goal.returns
returns c = burst_done
