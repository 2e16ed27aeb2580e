use Rattle.std.proofs.lemmas.Result.{err_from_is_err_and}
use Rattle.std.proofs.Common.{refl}
use Rattle.tab_io.proofs.SinkLemmas.{all_left, left_behind, left_broken, left_last}
use Rattle.view_table.proofs.data.put_csv_line.Goals as goal

pub returns-in_err-put_csv_named : goal.returns-in_err-put_csv_named
returns-in_err-put_csv_named g c =
    let p = err_from_is_err_and c.from_residual.result c.from_residual.ensures.1 in
    rw p.1 (left_broken _ _ _ _ _ _ _ _ _ (all_left _ _) refl c.put_csv_named.ensures c.in_err-put_csv_named.was)

pub returns-in_err-put_core_list : goal.returns-in_err-put_core_list
returns-in_err-put_core_list g c =
    let p = err_from_is_err_and c.from_residual-in_err-put_core_list.result c.from_residual-in_err-put_core_list.ensures.1 in
    let at0 = left_behind _ _ _ _ _ _ _ _ _ (all_left _ _) refl c.put_csv_named.ensures c.in_ok-put_csv_named.was in
    rw p.1 (left_broken _ _ _ _ _ _ _ _ _ at0 refl c.put_core_list.ensures c.in_err-put_core_list.was)

pub returns : goal.returns
returns g c =
    let at0 = left_behind _ _ _ _ _ _ _ _ _ (all_left _ _) refl c.put_csv_named.ensures c.in_ok-put_csv_named.was in
    let at1 = left_behind _ _ _ _ _ _ _ _ _ at0 refl c.put_core_list.ensures c.in_ok-put_core_list.was in
    left_last _ _ _ _ _ _ at1 c.write_all.ensures
