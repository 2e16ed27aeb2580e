use Rattle.std.proofs.Common.{arith, refl}
use Rattle.advice.proofs.LeastLemmas.{share_higher}
use Rattle.advice.proofs.least.nearer_share.Goals as goal

pub returns-else-has_period-clause-between : goal.returns-else-has_period-clause-between
returns-else-has_period-clause-between c = share_higher _ _ _ _ _ c.requires.between refl
    (omega (arith, c.requires.apart)) (omega (arith, c.requires.apart)) c.if-has_period.ensures
