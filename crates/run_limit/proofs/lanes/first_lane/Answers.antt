use Rattle.std.proofs.Common.{sym}
use Rattle.run_limit.proofs.PassedLemmas.{none_passed}
use Rattle.run_limit.proofs.lanes.first_lane.Goals as goal

pub enter-requires-clause-next : goal.enter-requires-clause-next
enter-requires-clause-next c = λ row at. sym (none_passed row)
