use Rattle.std.proofs.lemmas.Result.{err_from_is_err_and}
use Rattle.std.proofs.Common.{refl}
use Rattle.tab_io.proofs.SinkLemmas.{all_left, left_behind, left_broken, left_last}
use Rattle.view_svg.proofs.lane_picture.put_lane.Goals as goal

pub returns-in_err-put_label : goal.returns-in_err-put_label
returns-in_err-put_label g c =
    let p = err_from_is_err_and c.from_residual.result c.from_residual.ensures.1 in
    rw p.1 (left_broken _ _ _ _ _ _ _ _ _ (all_left _ _) refl c.put_label.ensures c.in_err-put_label.was)

pub returns-in_err-put_body : goal.returns-in_err-put_body
returns-in_err-put_body g c =
    let p = err_from_is_err_and c.from_residual-in_err-put_body.result c.from_residual-in_err-put_body.ensures.1 in
    let at0 = left_behind _ _ _ _ _ _ _ _ _ (all_left _ _) refl c.put_label.ensures c.in_ok-put_label.was in
    rw p.1 (left_broken _ _ _ _ _ _ _ _ _ at0 refl c.put_body.ensures c.in_err-put_body.was)

pub returns-in_err-put_waits : goal.returns-in_err-put_waits
returns-in_err-put_waits g c =
    let p = err_from_is_err_and c.from_residual-in_err-put_waits.result c.from_residual-in_err-put_waits.ensures.1 in
    let at0 = left_behind _ _ _ _ _ _ _ _ _ (all_left _ _) refl c.put_label.ensures c.in_ok-put_label.was in
    let at1 = left_behind _ _ _ _ _ _ _ _ _ at0 refl c.put_body.ensures c.in_ok-put_body.was in
    rw p.1 (left_broken _ _ _ _ _ _ _ _ _ at1 refl c.put_waits.ensures c.in_err-put_waits.was)

pub returns-in_err-put_keys : goal.returns-in_err-put_keys
returns-in_err-put_keys g c =
    let p = err_from_is_err_and c.from_residual-in_err-put_keys.result c.from_residual-in_err-put_keys.ensures.1 in
    let at0 = left_behind _ _ _ _ _ _ _ _ _ (all_left _ _) refl c.put_label.ensures c.in_ok-put_label.was in
    let at1 = left_behind _ _ _ _ _ _ _ _ _ at0 refl c.put_body.ensures c.in_ok-put_body.was in
    let at2 = left_behind _ _ _ _ _ _ _ _ _ at1 refl c.put_waits.ensures c.in_ok-put_waits.was in
    rw p.1 (left_broken _ _ _ _ _ _ _ _ _ at2 refl c.put_keys.ensures c.in_err-put_keys.was)

pub returns : goal.returns
returns g c =
    let at0 = left_behind _ _ _ _ _ _ _ _ _ (all_left _ _) refl c.put_label.ensures c.in_ok-put_label.was in
    let at1 = left_behind _ _ _ _ _ _ _ _ _ at0 refl c.put_body.ensures c.in_ok-put_body.was in
    let at2 = left_behind _ _ _ _ _ _ _ _ _ at1 refl c.put_waits.ensures c.in_ok-put_waits.was in
    let at3 = left_behind _ _ _ _ _ _ _ _ _ at2 refl c.put_keys.ensures c.in_ok-put_keys.was in
    left_last _ _ _ _ _ _ at3 c.write_all.ensures
