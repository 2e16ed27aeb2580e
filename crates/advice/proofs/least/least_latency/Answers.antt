use Rattle.std.proofs.Common.{arith}
use Rattle.advice.proofs.LeastLemmas.{latency_begins}
use Rattle.advice.proofs.least.least_latency.Goals as goal

pub loop-low-init : goal.loop-low-init
loop-low-init c = latency_begins _ _ _ c.if-has_period.ensures c.requires.at_most (omega arith)
