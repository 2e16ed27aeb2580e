use Rattle.run_state.proofs.RunViewLemmas.{view_kept}
use Rattle.run_state.proofs.laws.a_run_view_is_kept.Goals as goal

pub returns : goal.returns
returns c = view_kept
