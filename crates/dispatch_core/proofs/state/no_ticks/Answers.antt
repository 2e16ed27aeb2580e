use Rattle.tab_core.proofs.Lists.{get_or-replicate_same}
use Rattle.dispatch_core.proofs.state.no_ticks.Goals as goal

pub returns : goal.returns
returns c = λ v lt. get_or-replicate_same 256 v 0
