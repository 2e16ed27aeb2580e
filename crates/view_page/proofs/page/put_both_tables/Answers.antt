use Rattle.std.proofs.lemmas.Result.{err_from_is_err_and}
use Rattle.std.proofs.Common.{refl}
use Rattle.tab_io.proofs.SinkLemmas.{all_left, left_behind, left_broken, left_last}
use Rattle.view_page.specs.Pages.{both_tables}
use Rattle.view_page.proofs.page.put_both_tables.Goals as goal

pub returns-in_err-write_all : goal.returns-in_err-write_all
unfolding both_tables
returns-in_err-write_all g c =
    let p = err_from_is_err_and c.from_residual.result c.from_residual.ensures.1 in
    rw p.1 (left_broken _ _ _ _ _ _ _ _ _ (all_left _ _) refl c.write_all.ensures c.in_err-write_all.was)

pub returns-in_err-write_table : goal.returns-in_err-write_table
unfolding both_tables
returns-in_err-write_table g c =
    let p = err_from_is_err_and c.from_residual-in_err-write_table.result c.from_residual-in_err-write_table.ensures.1 in
    let at0 = left_behind _ _ _ _ _ _ _ _ _ (all_left _ _) refl c.write_all.ensures c.in_ok-write_all.was in
    rw p.1 (left_broken _ _ _ _ _ _ _ _ _ at0 refl c.write_table.ensures c.in_err-write_table.was)

pub returns-in_err-write_all-2 : goal.returns-in_err-write_all-2
unfolding both_tables
returns-in_err-write_all-2 g c =
    let p = err_from_is_err_and c.from_residual-in_err-write_all-2.result c.from_residual-in_err-write_all-2.ensures.1 in
    let at0 = left_behind _ _ _ _ _ _ _ _ _ (all_left _ _) refl c.write_all.ensures c.in_ok-write_all.was in
    let at1 = left_behind _ _ _ _ _ _ _ _ _ at0 refl c.write_table.ensures c.in_ok-write_table.was in
    rw p.1 (left_broken _ _ _ _ _ _ _ _ _ at1 refl c.write_all-2.ensures c.in_err-write_all-2.was)

pub returns-in_err-write_vm_table : goal.returns-in_err-write_vm_table
unfolding both_tables
returns-in_err-write_vm_table g c =
    let p = err_from_is_err_and c.from_residual-in_err-write_vm_table.result c.from_residual-in_err-write_vm_table.ensures.1 in
    let at0 = left_behind _ _ _ _ _ _ _ _ _ (all_left _ _) refl c.write_all.ensures c.in_ok-write_all.was in
    let at1 = left_behind _ _ _ _ _ _ _ _ _ at0 refl c.write_table.ensures c.in_ok-write_table.was in
    let at2 = left_behind _ _ _ _ _ _ _ _ _ at1 refl c.write_all-2.ensures c.in_ok-write_all-2.was in
    rw p.1 (left_broken _ _ _ _ _ _ _ _ _ at2 refl c.write_vm_table.ensures c.in_err-write_vm_table.was)

pub returns : goal.returns
unfolding both_tables
returns g c =
    let at0 = left_behind _ _ _ _ _ _ _ _ _ (all_left _ _) refl c.write_all.ensures c.in_ok-write_all.was in
    let at1 = left_behind _ _ _ _ _ _ _ _ _ at0 refl c.write_table.ensures c.in_ok-write_table.was in
    let at2 = left_behind _ _ _ _ _ _ _ _ _ at1 refl c.write_all-2.ensures c.in_ok-write_all-2.was in
    let at3 = left_behind _ _ _ _ _ _ _ _ _ at2 refl c.write_vm_table.ensures c.in_ok-write_vm_table.was in
    left_last _ _ _ _ _ _ at3 c.write_all-3.ensures
