use Rattle.std.proofs.lemmas.Result.{err_from_is_err_and}
use Rattle.std.proofs.Common.{refl}
use Rattle.tab_io.proofs.SinkLemmas.{all_left, left_behind, left_broken, left_last}
use Rattle.view_svg.proofs.columns.put_titled.Goals as goal

pub returns-in_err-put_path_begin : goal.returns-in_err-put_path_begin
returns-in_err-put_path_begin g c =
    let p = err_from_is_err_and c.from_residual.result c.from_residual.ensures.1 in
    rw p.1 (left_broken _ _ _ _ _ _ _ _ _ (all_left _ _) refl c.put_path_begin.ensures c.in_err-put_path_begin.was)

pub returns-in_err-put_boxes : goal.returns-in_err-put_boxes
returns-in_err-put_boxes g c =
    let p = err_from_is_err_and c.from_residual-in_err-put_boxes.result c.from_residual-in_err-put_boxes.ensures.1 in
    let at0 = left_behind _ _ _ _ _ _ _ _ _ (all_left _ _) refl c.put_path_begin.ensures c.in_ok-put_path_begin.was in
    rw p.1 (left_broken _ _ _ _ _ _ _ _ _ at0 refl c.put_boxes.ensures c.in_err-put_boxes.was)

pub returns : goal.returns
returns g c =
    let at0 = left_behind _ _ _ _ _ _ _ _ _ (all_left _ _) refl c.put_path_begin.ensures c.in_ok-put_path_begin.was in
    let at1 = left_behind _ _ _ _ _ _ _ _ _ at0 refl c.put_boxes.ensures c.in_ok-put_boxes.was in
    left_last _ _ _ _ _ _ at1 c.put_path_end.ensures
