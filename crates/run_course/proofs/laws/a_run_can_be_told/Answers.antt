use Rattle.run_course.proofs.TellingLemmas.{can_be_told}
use Rattle.run_course.proofs.laws.a_run_can_be_told.Goals as goal

pub returns : goal.returns
returns c = can_be_told
