use Rattle.std.proofs.lemmas.Result.{err_from_is_err_and}
use Rattle.std.proofs.Common.{refl}
use Rattle.tab_io.proofs.SinkLemmas.{all_left, left_behind, left_broken, left_last}
use Rattle.view_cells.specs.Cells.{millis_cell}
use Rattle.view_cells.proofs.cells.put_millis.Goals as goal

pub returns-in_err-put_count : goal.returns-in_err-put_count
unfolding millis_cell
returns-in_err-put_count g c =
    let p = err_from_is_err_and c.from_residual.result c.from_residual.ensures.1 in
    rw p.1 (left_broken _ _ _ _ _ _ _ _ _ (all_left _ _) refl c.put_count.ensures c.in_err-put_count.was)

pub returns : goal.returns
unfolding millis_cell
returns g c =
    let at0 = left_behind _ _ _ _ _ _ _ _ _ (all_left _ _) refl c.put_count.ensures c.in_ok-put_count.was in
    left_last _ _ _ _ _ _ at0 c.put_three.ensures
