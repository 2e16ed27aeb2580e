use Rattle.std.proofs.Common.{refl}
use Rattle.host_judge.proofs.SettledLemmas.{waits_stopped}
use Rattle.host_judge.proofs.waits.waits_stopped.Goals as goal

pub returns-clause-counted : goal.returns-clause-counted
returns-clause-counted c = λ course told state from to order isnt has held.
    waits_stopped course told state from to _ _ order isnt has held refl refl refl refl
