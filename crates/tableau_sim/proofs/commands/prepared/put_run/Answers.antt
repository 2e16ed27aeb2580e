use Rattle.std.proofs.Common.{refl}
use Rattle.std.proofs.lemmas.Result.{err_from_is_err_and}
use Rattle.tab_io.proofs.SinkLemmas.{all_left, left_behind, left_broken, left_last}
use Rattle.tableau_sim.proofs.commands.prepared.put_run.Goals as goal

pub returns-in_err-put_head : goal.returns-in_err-put_head
returns-in_err-put_head g c =
    let p = err_from_is_err_and c.from_residual.result c.from_residual.ensures.1 in
    rw p.1 (left_broken _ _ _ _ _ _ _ _ _ (all_left _ _) refl c.put_head.ensures c.in_err-put_head.was)

pub returns : goal.returns
returns g c = left_last _ _ _ _ _ _
    (left_behind _ _ _ _ _ _ _ _ _ (all_left _ _) refl c.put_head.ensures c.in_ok-put_head.was)
    (rw c.deref.ensures.value at c.write_run.ensures)
