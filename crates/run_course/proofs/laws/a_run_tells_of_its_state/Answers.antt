use Rattle.run_course.proofs.TellingLemmas.{tells_of_state}
use Rattle.run_course.proofs.laws.a_run_tells_of_its_state.Goals as goal

pub returns : goal.returns
returns c = tells_of_state
