use Rattle.std.proofs.lemmas.Result.{err_from_is_err_and}
use Rattle.std.proofs.Common.{◌∙◌, refl}
use Rattle.tab_io.proofs.SinkLemmas.{all_left, left_behind, left_broken, left_last}
use Rattle.view_svg.proofs.lane.put_bars.Goals as goal

pub returns-in_err-put_all_paths : goal.returns-in_err-put_all_paths
returns-in_err-put_all_paths g c =
    let p = err_from_is_err_and c.from_residual.result c.from_residual.ensures.1 in
    let boxes = c.as_slice-boxes.ensures.value ∙ c.boxes_of-joined.ensures in
    rw (p.1, ← boxes)
    (left_broken _ _ _ _ _ _ _ _ _ (all_left _ _) refl c.put_all_paths.ensures c.in_err-put_all_paths.was)

pub returns-in_err-put_seams : goal.returns-in_err-put_seams
returns-in_err-put_seams g c =
    let p = err_from_is_err_and c.from_residual-in_err-put_seams.result c.from_residual-in_err-put_seams.ensures.1 in
    let boxes = c.as_slice-boxes.ensures.value ∙ c.boxes_of-joined.ensures in
    let seams = c.as_slice.ensures.value ∙ c.seams_of-seams.ensures in
    let at0 = left_behind _ _ _ _ _ _ _ _ _ (all_left _ _) refl c.put_all_paths.ensures c.in_ok-put_all_paths.was in
    rw (p.1, ← boxes, ← seams)
    (left_broken _ _ _ _ _ _ _ _ _ at0 refl c.put_seams.ensures c.in_err-put_seams.was)

pub returns : goal.returns
returns g c =
    let boxes = c.as_slice-boxes.ensures.value ∙ c.boxes_of-joined.ensures in
    let seams = c.as_slice.ensures.value ∙ c.seams_of-seams.ensures in
    let at0 = left_behind _ _ _ _ _ _ _ _ _ (all_left _ _) refl c.put_all_paths.ensures c.in_ok-put_all_paths.was in
    let at1 = left_behind _ _ _ _ _ _ _ _ _ at0 refl c.put_seams.ensures c.in_ok-put_seams.was in
    rw (← boxes, ← seams) (left_last _ _ _ _ _ _ at1 c.put_box_marks.ensures)
