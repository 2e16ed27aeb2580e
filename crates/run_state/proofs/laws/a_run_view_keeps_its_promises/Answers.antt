use Rattle.run_promises.proofs.PromiseLemmas.{promised}
use Rattle.run_state.specs.Readings.{state_of}
use Rattle.run_state.proofs.RunViewLemmas.{view_kept}
use Rattle.run_state.proofs.laws.a_run_view_keeps_its_promises.Goals as goal

pub returns : goal.returns
returns c = λ course rounds v ok run.
    promised course rounds (state_of course v) ok (view_kept course rounds v run)
