use Rattle.burst_bound.proofs.SeenLemmas.{seen_early}
use Rattle.burst_bound.proofs.laws.an_event_is_seen_early.Goals as goal

pub returns : goal.returns
returns c = seen_early
