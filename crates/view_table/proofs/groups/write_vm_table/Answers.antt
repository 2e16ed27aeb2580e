use Rattle.std.proofs.lemmas.Result.{err_from_is_err_and}
use Rattle.std.proofs.Common.{refl}
use Rattle.tab_io.proofs.SinkLemmas.{all_left, left_behind, left_broken, left_last}
use Rattle.view_table.proofs.groups.write_vm_table.Goals as goal

pub returns-in_err-put_refusal : goal.returns-in_err-put_refusal
returns-in_err-put_refusal g c =
    let p = err_from_is_err_and c.from_residual.result c.from_residual.ensures.1 in
    let put = rw c.deref.ensures.value at c.put_refusal.ensures in
    rw p.1 (left_broken _ _ _ _ _ _ _ _ _ (all_left _ _) refl put c.in_err-put_refusal.was)

pub returns : goal.returns
returns g c =
    let put = rw c.deref.ensures.value at c.put_refusal.ensures in
    let at0 = left_behind _ _ _ _ _ _ _ _ _ (all_left _ _) refl put c.in_ok-put_refusal.was in
    left_last _ _ _ _ _ _ at0 c.put_wide_vm_table.ensures
