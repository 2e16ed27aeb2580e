use Rattle.std.proofs.lemmas.Result.{err_from_is_err_and}
use Rattle.std.proofs.Common.{refl}
use Rattle.tab_io.proofs.SinkLemmas.{all_left, left_behind, left_broken, left_last}
use Rattle.view_table.proofs.diff.write_diff.Goals as goal

pub returns-in_err-put_count_change : goal.returns-in_err-put_count_change
returns-in_err-put_count_change g c =
    let p = err_from_is_err_and c.from_residual.result c.from_residual.ensures.1 in
    rw p.1 (left_broken _ _ _ _ _ _ _ _ _ (all_left _ _) refl c.put_count_change.ensures c.in_err-put_count_change.was)

pub returns-in_err-put_old : goal.returns-in_err-put_old
returns-in_err-put_old g c =
    let p = err_from_is_err_and c.from_residual-in_err-put_old.result c.from_residual-in_err-put_old.ensures.1 in
    let at0 = left_behind _ _ _ _ _ _ _ _ _ (all_left _ _) refl c.put_count_change.ensures c.in_ok-put_count_change.was in
    rw p.1 (left_broken _ _ _ _ _ _ _ _ _ at0 refl c.put_old.ensures c.in_err-put_old.was)

pub returns-in_err-put_new : goal.returns-in_err-put_new
returns-in_err-put_new g c =
    let p = err_from_is_err_and c.from_residual-in_err-put_new.result c.from_residual-in_err-put_new.ensures.1 in
    let at0 = left_behind _ _ _ _ _ _ _ _ _ (all_left _ _) refl c.put_count_change.ensures c.in_ok-put_count_change.was in
    let at1 = left_behind _ _ _ _ _ _ _ _ _ at0 refl c.put_old.ensures c.in_ok-put_old.was in
    rw p.1 (left_broken _ _ _ _ _ _ _ _ _ at1 refl c.put_new.ensures c.in_err-put_new.was)

pub returns-in_err-put_loads : goal.returns-in_err-put_loads
returns-in_err-put_loads g c =
    let p = err_from_is_err_and c.from_residual-in_err-put_loads.result c.from_residual-in_err-put_loads.ensures.1 in
    let at0 = left_behind _ _ _ _ _ _ _ _ _ (all_left _ _) refl c.put_count_change.ensures c.in_ok-put_count_change.was in
    let at1 = left_behind _ _ _ _ _ _ _ _ _ at0 refl c.put_old.ensures c.in_ok-put_old.was in
    let at2 = left_behind _ _ _ _ _ _ _ _ _ at1 refl c.put_new.ensures c.in_ok-put_new.was in
    rw p.1 (left_broken _ _ _ _ _ _ _ _ _ at2 refl c.put_loads.ensures c.in_err-put_loads.was)

pub returns : goal.returns
returns g c =
    let at0 = left_behind _ _ _ _ _ _ _ _ _ (all_left _ _) refl c.put_count_change.ensures c.in_ok-put_count_change.was in
    let at1 = left_behind _ _ _ _ _ _ _ _ _ at0 refl c.put_old.ensures c.in_ok-put_old.was in
    let at2 = left_behind _ _ _ _ _ _ _ _ _ at1 refl c.put_new.ensures c.in_ok-put_new.was in
    let at3 = left_behind _ _ _ _ _ _ _ _ _ at2 refl c.put_loads.ensures c.in_ok-put_loads.was in
    left_last _ _ _ _ _ _ at3 c.put_slots.ensures
