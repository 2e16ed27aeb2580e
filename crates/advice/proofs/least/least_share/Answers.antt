use Rattle.advice.proofs.LeastLemmas.{share_begins}
use Rattle.advice.proofs.least.least_share.Goals as goal

pub loop-low-init : goal.loop-low-init
loop-low-init c = share_begins _ _ c.if-has_period.ensures
