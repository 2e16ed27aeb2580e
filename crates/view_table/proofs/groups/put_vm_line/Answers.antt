use Rattle.std.proofs.lemmas.Result.{err_from_is_err_and}
use Rattle.std.proofs.Common.{refl}
use Rattle.tab_io.proofs.SinkLemmas.{all_left, left_behind, left_broken, left_last}
use Rattle.view_table.proofs.groups.put_vm_line.Goals as goal

pub returns-in_err-put_figures : goal.returns-in_err-put_figures
returns-in_err-put_figures g c =
    let p = err_from_is_err_and c.from_residual.result c.from_residual.ensures.1 in
    rw p.1 (left_broken _ _ _ _ _ _ _ _ _ (all_left _ _) refl c.put_figures.ensures c.in_err-put_figures.was)

pub returns-in_err-put_vm_cores : goal.returns-in_err-put_vm_cores
returns-in_err-put_vm_cores g c =
    let p = err_from_is_err_and c.from_residual-in_err-put_vm_cores.result c.from_residual-in_err-put_vm_cores.ensures.1 in
    let at0 = left_behind _ _ _ _ _ _ _ _ _ (all_left _ _) refl c.put_figures.ensures c.in_ok-put_figures.was in
    rw p.1 (left_broken _ _ _ _ _ _ _ _ _ at0 refl c.put_vm_cores.ensures c.in_err-put_vm_cores.was)

pub returns : goal.returns
returns g c =
    let at0 = left_behind _ _ _ _ _ _ _ _ _ (all_left _ _) refl c.put_figures.ensures c.in_ok-put_figures.was in
    let at1 = left_behind _ _ _ _ _ _ _ _ _ at0 refl c.put_vm_cores.ensures c.in_ok-put_vm_cores.was in
    left_last _ _ _ _ _ _ at1 c.write_all.ensures
