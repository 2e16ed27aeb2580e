use Rattle.std.proofs.lemmas.Result.{err_from_is_err_and}
use Rattle.std.proofs.Common.{refl}
use Rattle.tab_io.proofs.SinkLemmas.{all_left, left_behind, left_broken, left_last}
use Rattle.view_table.proofs.diff_data.put_new_part.Goals as goal

pub returns-in_err-put_middle : goal.returns-in_err-put_middle
returns-in_err-put_middle g c =
    let p = err_from_is_err_and c.from_residual.result c.from_residual.ensures.1 in
    rw p.1 (left_broken _ _ _ _ _ _ _ _ _ (all_left _ _) refl c.put_middle.ensures c.in_err-put_middle.was)

pub returns-in_err-put_side : goal.returns-in_err-put_side
returns-in_err-put_side g c =
    let p = err_from_is_err_and c.from_residual-in_err-put_side.result c.from_residual-in_err-put_side.ensures.1 in
    let at0 = left_behind _ _ _ _ _ _ _ _ _ (all_left _ _) refl c.put_middle.ensures c.in_ok-put_middle.was in
    rw p.1 (left_broken _ _ _ _ _ _ _ _ _ at0 refl c.put_side.ensures c.in_err-put_side.was)

pub returns : goal.returns
returns g c =
    let at0 = left_behind _ _ _ _ _ _ _ _ _ (all_left _ _) refl c.put_middle.ensures c.in_ok-put_middle.was in
    let at1 = left_behind _ _ _ _ _ _ _ _ _ at0 refl c.put_side.ensures c.in_ok-put_side.was in
    left_last _ _ _ _ _ _ at1 c.put_row_end.ensures
