use Rattle.std.proofs.lemmas.Result.{err_from_is_err_and}
use Rattle.std.proofs.Common.{refl}
use Rattle.tab_io.proofs.SinkLemmas.{all_left, left_behind, left_broken, left_last}
use Rattle.view_report.proofs.csv.write_report_csv.Goals as goal

pub returns-in_err-put_head : goal.returns-in_err-put_head
returns-in_err-put_head g c =
    let p = err_from_is_err_and c.from_residual.result c.from_residual.ensures.1 in
    rw p.1 (left_broken _ _ _ _ _ _ _ _ _ (all_left _ _) refl c.put_head.ensures c.in_err-put_head.was)

pub returns-in_err-put_vcpus : goal.returns-in_err-put_vcpus
returns-in_err-put_vcpus g c =
    let p = err_from_is_err_and c.from_residual-in_err-put_vcpus.result c.from_residual-in_err-put_vcpus.ensures.1 in
    let at0 = left_behind _ _ _ _ _ _ _ _ _ (all_left _ _) refl c.put_head.ensures c.in_ok-put_head.was in
    rw p.1 (left_broken _ _ _ _ _ _ _ _ _ at0 refl (rw c.deref.ensures.value at c.put_vcpus.ensures) c.in_err-put_vcpus.was)

pub returns : goal.returns
returns g c =
    let at0 = left_behind _ _ _ _ _ _ _ _ _ (all_left _ _) refl c.put_head.ensures c.in_ok-put_head.was in
    let at1 = left_behind _ _ _ _ _ _ _ _ _ at0 refl (rw c.deref.ensures.value at c.put_vcpus.ensures) c.in_ok-put_vcpus.was in
    left_last _ _ _ _ _ _ at1 (rw c.deref-2.ensures.value at c.put_cores.ensures)
