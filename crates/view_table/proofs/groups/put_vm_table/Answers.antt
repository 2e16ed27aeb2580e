use Rattle.std.proofs.lemmas.Result.{err_from_is_err_and}
use Rattle.std.proofs.Common.{refl}
use Rattle.tab_io.proofs.SinkLemmas.{all_left, left_behind, left_broken, left_last}
use Rattle.view_table.proofs.groups.put_vm_table.Goals as goal

pub returns-in_err-put_left : goal.returns-in_err-put_left
returns-in_err-put_left g c =
    let p = err_from_is_err_and c.from_residual.result c.from_residual.ensures.1 in
    rw p.1 (left_broken _ _ _ _ _ _ _ _ _ (all_left _ _) refl c.put_left.ensures c.in_err-put_left.was)

pub returns-in_err-put_vm_head : goal.returns-in_err-put_vm_head
returns-in_err-put_vm_head g c =
    let p = err_from_is_err_and c.from_residual-in_err-put_vm_head.result c.from_residual-in_err-put_vm_head.ensures.1 in
    let at0 = left_behind _ _ _ _ _ _ _ _ _ (all_left _ _) refl c.put_left.ensures c.in_ok-put_left.was in
    rw p.1 (left_broken _ _ _ _ _ _ _ _ _ at0 refl c.put_vm_head.ensures c.in_err-put_vm_head.was)

pub returns-in_err-put_vms : goal.returns-in_err-put_vms
returns-in_err-put_vms g c =
    let p = err_from_is_err_and c.from_residual-in_err-put_vms.result c.from_residual-in_err-put_vms.ensures.1 in
    let at0 = left_behind _ _ _ _ _ _ _ _ _ (all_left _ _) refl c.put_left.ensures c.in_ok-put_left.was in
    let at1 = left_behind _ _ _ _ _ _ _ _ _ at0 refl c.put_vm_head.ensures c.in_ok-put_vm_head.was in
    rw p.1 (left_broken _ _ _ _ _ _ _ _ _ at1 refl c.put_vms.ensures c.in_err-put_vms.was)

pub returns : goal.returns
returns g c =
    let at0 = left_behind _ _ _ _ _ _ _ _ _ (all_left _ _) refl c.put_left.ensures c.in_ok-put_left.was in
    let at1 = left_behind _ _ _ _ _ _ _ _ _ at0 refl c.put_vm_head.ensures c.in_ok-put_vm_head.was in
    let at2 = left_behind _ _ _ _ _ _ _ _ _ at1 refl c.put_vms.ensures c.in_ok-put_vms.was in
    left_last _ _ _ _ _ _ at2 c.put_end.ensures
