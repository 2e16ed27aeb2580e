use Rattle.std.proofs.Common.{refl}
use Rattle.host_judge.proofs.dues.owed_of.Goals as goal

pub returns-in-Some : goal.returns-in-Some
returns-in-Some c = rw c.in-Some.is (c.owed_by_share.result, refl, c.owed_by_share.ensures)
