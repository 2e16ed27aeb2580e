use Rattle.std.proofs.lemmas.Result.{err_from_is_err_and}
use Rattle.std.proofs.Common.{refl}
use Rattle.tab_io.proofs.SinkLemmas.{all_left, left_behind, left_broken, left_last}
use Rattle.view_report.proofs.json.write_report_json.Goals as goal

pub returns-in_err-put_begin : goal.returns-in_err-put_begin
returns-in_err-put_begin g c =
    let p = err_from_is_err_and c.from_residual.result c.from_residual.ensures.1 in
    rw p.1 (left_broken _ _ _ _ _ _ _ _ _ (all_left _ _) refl c.put_begin.ensures c.in_err-put_begin.was)

pub returns-in_err-put_changes : goal.returns-in_err-put_changes
returns-in_err-put_changes g c =
    let p = err_from_is_err_and c.from_residual-in_err-put_changes.result c.from_residual-in_err-put_changes.ensures.1 in
    let at0 = left_behind _ _ _ _ _ _ _ _ _ (all_left _ _) refl c.put_begin.ensures c.in_ok-put_begin.was in
    rw p.1 (left_broken _ _ _ _ _ _ _ _ _ at0 refl (rw c.deref.ensures.value at c.put_changes.ensures) c.in_err-put_changes.was)

pub returns-in_err-write_all : goal.returns-in_err-write_all
returns-in_err-write_all g c =
    let p = err_from_is_err_and c.from_residual-in_err-write_all.result c.from_residual-in_err-write_all.ensures.1 in
    let at0 = left_behind _ _ _ _ _ _ _ _ _ (all_left _ _) refl c.put_begin.ensures c.in_ok-put_begin.was in
    let at1 = left_behind _ _ _ _ _ _ _ _ _ at0 refl (rw c.deref.ensures.value at c.put_changes.ensures) c.in_ok-put_changes.was in
    rw p.1 (left_broken _ _ _ _ _ _ _ _ _ at1 refl c.write_all.ensures c.in_err-write_all.was)

pub returns-in_err-put_plans : goal.returns-in_err-put_plans
returns-in_err-put_plans g c =
    let p = err_from_is_err_and c.from_residual-in_err-put_plans.result c.from_residual-in_err-put_plans.ensures.1 in
    let at0 = left_behind _ _ _ _ _ _ _ _ _ (all_left _ _) refl c.put_begin.ensures c.in_ok-put_begin.was in
    let at1 = left_behind _ _ _ _ _ _ _ _ _ at0 refl (rw c.deref.ensures.value at c.put_changes.ensures) c.in_ok-put_changes.was in
    let at2 = left_behind _ _ _ _ _ _ _ _ _ at1 refl c.write_all.ensures c.in_ok-write_all.was in
    rw p.1 (left_broken _ _ _ _ _ _ _ _ _ at2 refl (rw c.deref-2.ensures.value at c.put_plans.ensures) c.in_err-put_plans.was)

pub returns-in_err-write_all-2 : goal.returns-in_err-write_all-2
returns-in_err-write_all-2 g c =
    let p = err_from_is_err_and c.from_residual-in_err-write_all-2.result c.from_residual-in_err-write_all-2.ensures.1 in
    let at0 = left_behind _ _ _ _ _ _ _ _ _ (all_left _ _) refl c.put_begin.ensures c.in_ok-put_begin.was in
    let at1 = left_behind _ _ _ _ _ _ _ _ _ at0 refl (rw c.deref.ensures.value at c.put_changes.ensures) c.in_ok-put_changes.was in
    let at2 = left_behind _ _ _ _ _ _ _ _ _ at1 refl c.write_all.ensures c.in_ok-write_all.was in
    let at3 = left_behind _ _ _ _ _ _ _ _ _ at2 refl (rw c.deref-2.ensures.value at c.put_plans.ensures) c.in_ok-put_plans.was in
    rw p.1 (left_broken _ _ _ _ _ _ _ _ _ at3 refl c.write_all-2.ensures c.in_err-write_all-2.was)

pub returns-in_err-put_vcpus : goal.returns-in_err-put_vcpus
returns-in_err-put_vcpus g c =
    let p = err_from_is_err_and c.from_residual-in_err-put_vcpus.result c.from_residual-in_err-put_vcpus.ensures.1 in
    let at0 = left_behind _ _ _ _ _ _ _ _ _ (all_left _ _) refl c.put_begin.ensures c.in_ok-put_begin.was in
    let at1 = left_behind _ _ _ _ _ _ _ _ _ at0 refl (rw c.deref.ensures.value at c.put_changes.ensures) c.in_ok-put_changes.was in
    let at2 = left_behind _ _ _ _ _ _ _ _ _ at1 refl c.write_all.ensures c.in_ok-write_all.was in
    let at3 = left_behind _ _ _ _ _ _ _ _ _ at2 refl (rw c.deref-2.ensures.value at c.put_plans.ensures) c.in_ok-put_plans.was in
    let at4 = left_behind _ _ _ _ _ _ _ _ _ at3 refl c.write_all-2.ensures c.in_ok-write_all-2.was in
    rw p.1 (left_broken _ _ _ _ _ _ _ _ _ at4 refl (rw c.deref-3.ensures.value at c.put_vcpus.ensures) c.in_err-put_vcpus.was)

pub returns-in_err-write_all-3 : goal.returns-in_err-write_all-3
returns-in_err-write_all-3 g c =
    let p = err_from_is_err_and c.from_residual-in_err-write_all-3.result c.from_residual-in_err-write_all-3.ensures.1 in
    let at0 = left_behind _ _ _ _ _ _ _ _ _ (all_left _ _) refl c.put_begin.ensures c.in_ok-put_begin.was in
    let at1 = left_behind _ _ _ _ _ _ _ _ _ at0 refl (rw c.deref.ensures.value at c.put_changes.ensures) c.in_ok-put_changes.was in
    let at2 = left_behind _ _ _ _ _ _ _ _ _ at1 refl c.write_all.ensures c.in_ok-write_all.was in
    let at3 = left_behind _ _ _ _ _ _ _ _ _ at2 refl (rw c.deref-2.ensures.value at c.put_plans.ensures) c.in_ok-put_plans.was in
    let at4 = left_behind _ _ _ _ _ _ _ _ _ at3 refl c.write_all-2.ensures c.in_ok-write_all-2.was in
    let at5 = left_behind _ _ _ _ _ _ _ _ _ at4 refl (rw c.deref-3.ensures.value at c.put_vcpus.ensures) c.in_ok-put_vcpus.was in
    rw p.1 (left_broken _ _ _ _ _ _ _ _ _ at5 refl c.write_all-3.ensures c.in_err-write_all-3.was)

pub returns-in_err-put_cores : goal.returns-in_err-put_cores
returns-in_err-put_cores g c =
    let p = err_from_is_err_and c.from_residual-in_err-put_cores.result c.from_residual-in_err-put_cores.ensures.1 in
    let at0 = left_behind _ _ _ _ _ _ _ _ _ (all_left _ _) refl c.put_begin.ensures c.in_ok-put_begin.was in
    let at1 = left_behind _ _ _ _ _ _ _ _ _ at0 refl (rw c.deref.ensures.value at c.put_changes.ensures) c.in_ok-put_changes.was in
    let at2 = left_behind _ _ _ _ _ _ _ _ _ at1 refl c.write_all.ensures c.in_ok-write_all.was in
    let at3 = left_behind _ _ _ _ _ _ _ _ _ at2 refl (rw c.deref-2.ensures.value at c.put_plans.ensures) c.in_ok-put_plans.was in
    let at4 = left_behind _ _ _ _ _ _ _ _ _ at3 refl c.write_all-2.ensures c.in_ok-write_all-2.was in
    let at5 = left_behind _ _ _ _ _ _ _ _ _ at4 refl (rw c.deref-3.ensures.value at c.put_vcpus.ensures) c.in_ok-put_vcpus.was in
    let at6 = left_behind _ _ _ _ _ _ _ _ _ at5 refl c.write_all-3.ensures c.in_ok-write_all-3.was in
    rw p.1 (left_broken _ _ _ _ _ _ _ _ _ at6 refl (rw c.deref-4.ensures.value at c.put_cores.ensures) c.in_err-put_cores.was)

pub returns : goal.returns
returns g c =
    let at0 = left_behind _ _ _ _ _ _ _ _ _ (all_left _ _) refl c.put_begin.ensures c.in_ok-put_begin.was in
    let at1 = left_behind _ _ _ _ _ _ _ _ _ at0 refl (rw c.deref.ensures.value at c.put_changes.ensures) c.in_ok-put_changes.was in
    let at2 = left_behind _ _ _ _ _ _ _ _ _ at1 refl c.write_all.ensures c.in_ok-write_all.was in
    let at3 = left_behind _ _ _ _ _ _ _ _ _ at2 refl (rw c.deref-2.ensures.value at c.put_plans.ensures) c.in_ok-put_plans.was in
    let at4 = left_behind _ _ _ _ _ _ _ _ _ at3 refl c.write_all-2.ensures c.in_ok-write_all-2.was in
    let at5 = left_behind _ _ _ _ _ _ _ _ _ at4 refl (rw c.deref-3.ensures.value at c.put_vcpus.ensures) c.in_ok-put_vcpus.was in
    let at6 = left_behind _ _ _ _ _ _ _ _ _ at5 refl c.write_all-3.ensures c.in_ok-write_all-3.was in
    let at7 = left_behind _ _ _ _ _ _ _ _ _ at6 refl (rw c.deref-4.ensures.value at c.put_cores.ensures) c.in_ok-put_cores.was in
    left_last _ _ _ _ _ _ at7 c.write_all-4.ensures
