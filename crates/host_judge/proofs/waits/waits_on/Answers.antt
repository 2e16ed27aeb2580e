use Rattle.std.proofs.Common.{refl}
use Rattle.host_judge.proofs.SettledLemmas.{waits_on}
use Rattle.host_judge.proofs.waits.waits_on.Goals as goal

pub returns-clause-counted : goal.returns-clause-counted
returns-clause-counted c = λ course told has held at.
    waits_on course told _ _ _ _ _ _ _ c.requires.order has held at c.begun_at-begun.ensures.begun
    c.newly_late.ensures.late c.newly_late.ensures.not_yet c.newly_late.ensures.before refl refl c.longest_of.ensures
    refl
