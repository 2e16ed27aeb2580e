use Rattle.std.proofs.lemmas.Result.{err_from_is_err_and}
use Rattle.std.proofs.Common.{refl}
use Rattle.tab_io.proofs.SinkLemmas.{all_left, left_behind, left_broken, left_last}
use Rattle.view_table.proofs.vm_diff.write_vm_diff.Goals as goal

pub returns-in_err-put_count_change : goal.returns-in_err-put_count_change
returns-in_err-put_count_change g c =
    let p = err_from_is_err_and c.from_residual.result c.from_residual.ensures.1 in
    rw p.1 (left_broken _ _ _ _ _ _ _ _ _ (all_left _ _) refl c.put_count_change.ensures c.in_err-put_count_change.was)

pub returns-in_err-put_old_vms : goal.returns-in_err-put_old_vms
returns-in_err-put_old_vms g c =
    let p = err_from_is_err_and c.from_residual-in_err-put_old_vms.result c.from_residual-in_err-put_old_vms.ensures.1 in
    let at0 = left_behind _ _ _ _ _ _ _ _ _ (all_left _ _) refl c.put_count_change.ensures c.in_ok-put_count_change.was in
    rw p.1 (left_broken _ _ _ _ _ _ _ _ _ at0 refl c.put_old_vms.ensures c.in_err-put_old_vms.was)

pub returns-in_err-put_new_vms : goal.returns-in_err-put_new_vms
returns-in_err-put_new_vms g c =
    let p = err_from_is_err_and c.from_residual-in_err-put_new_vms.result c.from_residual-in_err-put_new_vms.ensures.1 in
    let at0 = left_behind _ _ _ _ _ _ _ _ _ (all_left _ _) refl c.put_count_change.ensures c.in_ok-put_count_change.was in
    let at1 = left_behind _ _ _ _ _ _ _ _ _ at0 refl c.put_old_vms.ensures c.in_ok-put_old_vms.was in
    rw p.1 (left_broken _ _ _ _ _ _ _ _ _ at1 refl c.put_new_vms.ensures c.in_err-put_new_vms.was)

pub returns-in_err-put_loads : goal.returns-in_err-put_loads
returns-in_err-put_loads g c =
    let p = err_from_is_err_and c.from_residual-in_err-put_loads.result c.from_residual-in_err-put_loads.ensures.1 in
    let at0 = left_behind _ _ _ _ _ _ _ _ _ (all_left _ _) refl c.put_count_change.ensures c.in_ok-put_count_change.was in
    let at1 = left_behind _ _ _ _ _ _ _ _ _ at0 refl c.put_old_vms.ensures c.in_ok-put_old_vms.was in
    let at2 = left_behind _ _ _ _ _ _ _ _ _ at1 refl c.put_new_vms.ensures c.in_ok-put_new_vms.was in
    rw p.1 (left_broken _ _ _ _ _ _ _ _ _ at2 refl c.put_loads.ensures c.in_err-put_loads.was)

pub returns : goal.returns
returns g c =
    let at0 = left_behind _ _ _ _ _ _ _ _ _ (all_left _ _) refl c.put_count_change.ensures c.in_ok-put_count_change.was in
    let at1 = left_behind _ _ _ _ _ _ _ _ _ at0 refl c.put_old_vms.ensures c.in_ok-put_old_vms.was in
    let at2 = left_behind _ _ _ _ _ _ _ _ _ at1 refl c.put_new_vms.ensures c.in_ok-put_new_vms.was in
    let at3 = left_behind _ _ _ _ _ _ _ _ _ at2 refl c.put_loads.ensures c.in_ok-put_loads.was in
    left_last _ _ _ _ _ _ at3 c.put_slots.ensures
