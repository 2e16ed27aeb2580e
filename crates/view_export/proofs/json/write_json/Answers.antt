use Rattle.std.proofs.lemmas.Result.{err_from_is_err_and}
use Rattle.std.proofs.Common.{refl}
use Rattle.tab_io.proofs.SinkLemmas.{all_left, left_behind, left_broken, left_last}
use Rattle.view_export.proofs.json.write_json.Goals as goal

pub returns-in_err-put_begin : goal.returns-in_err-put_begin
returns-in_err-put_begin g c =
    let p = err_from_is_err_and c.from_residual.result c.from_residual.ensures.1 in
    rw p.1 (left_broken _ _ _ _ _ _ _ _ _ (all_left _ _) refl c.put_begin.ensures c.in_err-put_begin.was)

pub returns-in_err-put_vcpus : goal.returns-in_err-put_vcpus
returns-in_err-put_vcpus g c =
    let p = err_from_is_err_and c.from_residual-in_err-put_vcpus.result c.from_residual-in_err-put_vcpus.ensures.1 in
    let at0 = left_behind _ _ _ _ _ _ _ _ _ (all_left _ _) refl c.put_begin.ensures c.in_ok-put_begin.was in
    let vcpus = rw (c.deref-names.ensures.value, c.deref.ensures.value) at c.put_vcpus.ensures in
    rw p.1 (left_broken _ _ _ _ _ _ _ _ _ at0 refl vcpus c.in_err-put_vcpus.was)

pub returns-in_err-put_slot_table : goal.returns-in_err-put_slot_table
returns-in_err-put_slot_table g c =
    let p = err_from_is_err_and c.from_residual-in_err-put_slot_table.result c.from_residual-in_err-put_slot_table.ensures.1 in
    let at0 = left_behind _ _ _ _ _ _ _ _ _ (all_left _ _) refl c.put_begin.ensures c.in_ok-put_begin.was in
    let vcpus = rw (c.deref-names.ensures.value, c.deref.ensures.value) at c.put_vcpus.ensures in
    let at1 = left_behind _ _ _ _ _ _ _ _ _ at0 refl vcpus c.in_ok-put_vcpus.was in
    let slots = rw (c.deref-names.ensures.value, c.deref-2.ensures.value) at c.put_slot_table.ensures in
    rw p.1 (left_broken _ _ _ _ _ _ _ _ _ at1 refl slots c.in_err-put_slot_table.was)

pub returns-in_err-put_entry_table : goal.returns-in_err-put_entry_table
returns-in_err-put_entry_table g c =
    let p = err_from_is_err_and c.from_residual-in_err-put_entry_table.result c.from_residual-in_err-put_entry_table.ensures.1 in
    let at0 = left_behind _ _ _ _ _ _ _ _ _ (all_left _ _) refl c.put_begin.ensures c.in_ok-put_begin.was in
    let vcpus = rw (c.deref-names.ensures.value, c.deref.ensures.value) at c.put_vcpus.ensures in
    let at1 = left_behind _ _ _ _ _ _ _ _ _ at0 refl vcpus c.in_ok-put_vcpus.was in
    let slots = rw (c.deref-names.ensures.value, c.deref-2.ensures.value) at c.put_slot_table.ensures in
    let at2 = left_behind _ _ _ _ _ _ _ _ _ at1 refl slots c.in_ok-put_slot_table.was in
    let entries = rw c.deref-3.ensures.value at c.put_entry_table.ensures in
    rw p.1 (left_broken _ _ _ _ _ _ _ _ _ at2 refl entries c.in_err-put_entry_table.was)

pub returns-in_err-put_stint_table : goal.returns-in_err-put_stint_table
returns-in_err-put_stint_table g c =
    let p = err_from_is_err_and c.from_residual-in_err-put_stint_table.result c.from_residual-in_err-put_stint_table.ensures.1 in
    let at0 = left_behind _ _ _ _ _ _ _ _ _ (all_left _ _) refl c.put_begin.ensures c.in_ok-put_begin.was in
    let vcpus = rw (c.deref-names.ensures.value, c.deref.ensures.value) at c.put_vcpus.ensures in
    let at1 = left_behind _ _ _ _ _ _ _ _ _ at0 refl vcpus c.in_ok-put_vcpus.was in
    let slots = rw (c.deref-names.ensures.value, c.deref-2.ensures.value) at c.put_slot_table.ensures in
    let at2 = left_behind _ _ _ _ _ _ _ _ _ at1 refl slots c.in_ok-put_slot_table.was in
    let entries = rw c.deref-3.ensures.value at c.put_entry_table.ensures in
    let at3 = left_behind _ _ _ _ _ _ _ _ _ at2 refl entries c.in_ok-put_entry_table.was in
    let stints = rw (c.deref-names.ensures.value, c.deref-4.ensures.value) at c.put_stint_table.ensures in
    rw p.1 (left_broken _ _ _ _ _ _ _ _ _ at3 refl stints c.in_err-put_stint_table.was)

pub returns : goal.returns
returns g c =
    let at0 = left_behind _ _ _ _ _ _ _ _ _ (all_left _ _) refl c.put_begin.ensures c.in_ok-put_begin.was in
    let vcpus = rw (c.deref-names.ensures.value, c.deref.ensures.value) at c.put_vcpus.ensures in
    let at1 = left_behind _ _ _ _ _ _ _ _ _ at0 refl vcpus c.in_ok-put_vcpus.was in
    let slots = rw (c.deref-names.ensures.value, c.deref-2.ensures.value) at c.put_slot_table.ensures in
    let at2 = left_behind _ _ _ _ _ _ _ _ _ at1 refl slots c.in_ok-put_slot_table.was in
    let entries = rw c.deref-3.ensures.value at c.put_entry_table.ensures in
    let at3 = left_behind _ _ _ _ _ _ _ _ _ at2 refl entries c.in_ok-put_entry_table.was in
    let stints = rw (c.deref-names.ensures.value, c.deref-4.ensures.value) at c.put_stint_table.ensures in
    let at4 = left_behind _ _ _ _ _ _ _ _ _ at3 refl stints c.in_ok-put_stint_table.was in
    left_last _ _ _ _ _ _ at4 c.write_all.ensures
