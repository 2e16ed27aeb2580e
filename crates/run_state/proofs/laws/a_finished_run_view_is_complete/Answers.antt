use Rattle.run_state.proofs.FinishedLemmas.{view_complete}
use Rattle.run_state.proofs.laws.a_finished_run_view_is_complete.Goals as goal

pub returns : goal.returns
returns c = view_complete
