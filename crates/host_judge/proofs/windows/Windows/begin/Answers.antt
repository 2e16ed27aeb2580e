use Rattle.host_judge.proofs.PlaceLemmas.{windows_first}
use Rattle.std.proofs.Common.{refl}
use Rattle.host_judge.proofs.windows.Windows.begin.Goals as goal

pub returns-clause-counted : goal.returns-clause-counted
returns-clause-counted c = λ course. windows_first course _ c.requires refl refl c.new.ensures.items refl refl
