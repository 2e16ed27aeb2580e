use Rattle.std.proofs.lemmas.Result.{err_from_is_err_and}
use Rattle.std.proofs.Common.{refl}
use Rattle.tab_io.proofs.SinkLemmas.{all_left, left_behind, left_broken, left_last}
use Rattle.view_table.proofs.data.put_object.Goals as goal

pub returns-in_err-put_comma : goal.returns-in_err-put_comma
returns-in_err-put_comma g c =
    let p = err_from_is_err_and c.from_residual.result c.from_residual.ensures.1 in
    rw p.1 (left_broken _ _ _ _ _ _ _ _ _ (all_left _ _) refl c.put_comma.ensures c.in_err-put_comma.was)

pub returns-in_err-put_json_named : goal.returns-in_err-put_json_named
returns-in_err-put_json_named g c =
    let p = err_from_is_err_and c.from_residual-in_err-put_json_named.result c.from_residual-in_err-put_json_named.ensures.1 in
    let at0 = left_behind _ _ _ _ _ _ _ _ _ (all_left _ _) refl c.put_comma.ensures c.in_ok-put_comma.was in
    rw p.1 (left_broken _ _ _ _ _ _ _ _ _ at0 refl c.put_json_named.ensures c.in_err-put_json_named.was)

pub returns-in_err-put_core_list : goal.returns-in_err-put_core_list
returns-in_err-put_core_list g c =
    let p = err_from_is_err_and c.from_residual-in_err-put_core_list.result c.from_residual-in_err-put_core_list.ensures.1 in
    let at0 = left_behind _ _ _ _ _ _ _ _ _ (all_left _ _) refl c.put_comma.ensures c.in_ok-put_comma.was in
    let at1 = left_behind _ _ _ _ _ _ _ _ _ at0 refl c.put_json_named.ensures c.in_ok-put_json_named.was in
    rw p.1 (left_broken _ _ _ _ _ _ _ _ _ at1 refl c.put_core_list.ensures c.in_err-put_core_list.was)

pub returns : goal.returns
returns g c =
    let at0 = left_behind _ _ _ _ _ _ _ _ _ (all_left _ _) refl c.put_comma.ensures c.in_ok-put_comma.was in
    let at1 = left_behind _ _ _ _ _ _ _ _ _ at0 refl c.put_json_named.ensures c.in_ok-put_json_named.was in
    let at2 = left_behind _ _ _ _ _ _ _ _ _ at1 refl c.put_core_list.ensures c.in_ok-put_core_list.was in
    left_last _ _ _ _ _ _ at2 c.write_all.ensures
