use Rattle.std.proofs.lemmas.Result.{err_from_is_err_and}
use Rattle.std.proofs.Common.{refl}
use Rattle.tab_io.proofs.SinkLemmas.{all_left, left_behind, left_broken, left_last}
use Rattle.view_table.proofs.data.write_table_json.Goals as goal

pub returns-in_err-put_begin : goal.returns-in_err-put_begin
returns-in_err-put_begin g c =
    let p = err_from_is_err_and c.from_residual.result c.from_residual.ensures.1 in
    rw p.1 (left_broken _ _ _ _ _ _ _ _ _ (all_left _ _) refl c.put_begin.ensures c.in_err-put_begin.was)

pub returns-in_err-put_json_rows : goal.returns-in_err-put_json_rows
returns-in_err-put_json_rows g c =
    let p = err_from_is_err_and c.from_residual-in_err-put_json_rows.result c.from_residual-in_err-put_json_rows.ensures.1 in
    let at0 = left_behind _ _ _ _ _ _ _ _ _ (all_left _ _) refl c.put_begin.ensures c.in_ok-put_begin.was in
    rw p.1 (left_broken _ _ _ _ _ _ _ _ _ at0 refl c.put_json_rows.ensures c.in_err-put_json_rows.was)

pub returns-in_err-put_load_head : goal.returns-in_err-put_load_head
returns-in_err-put_load_head g c =
    let p = err_from_is_err_and c.from_residual-in_err-put_load_head.result c.from_residual-in_err-put_load_head.ensures.1 in
    let at0 = left_behind _ _ _ _ _ _ _ _ _ (all_left _ _) refl c.put_begin.ensures c.in_ok-put_begin.was in
    let at1 = left_behind _ _ _ _ _ _ _ _ _ at0 refl c.put_json_rows.ensures c.in_ok-put_json_rows.was in
    rw p.1 (left_broken _ _ _ _ _ _ _ _ _ at1 refl c.put_load_head.ensures c.in_err-put_load_head.was)

pub returns-in_err-put_loads : goal.returns-in_err-put_loads
returns-in_err-put_loads g c =
    let p = err_from_is_err_and c.from_residual-in_err-put_loads.result c.from_residual-in_err-put_loads.ensures.1 in
    let at0 = left_behind _ _ _ _ _ _ _ _ _ (all_left _ _) refl c.put_begin.ensures c.in_ok-put_begin.was in
    let at1 = left_behind _ _ _ _ _ _ _ _ _ at0 refl c.put_json_rows.ensures c.in_ok-put_json_rows.was in
    let at2 = left_behind _ _ _ _ _ _ _ _ _ at1 refl c.put_load_head.ensures c.in_ok-put_load_head.was in
    rw p.1 (left_broken _ _ _ _ _ _ _ _ _ at2 refl c.put_loads.ensures c.in_err-put_loads.was)

pub returns : goal.returns
returns g c =
    let at0 = left_behind _ _ _ _ _ _ _ _ _ (all_left _ _) refl c.put_begin.ensures c.in_ok-put_begin.was in
    let at1 = left_behind _ _ _ _ _ _ _ _ _ at0 refl c.put_json_rows.ensures c.in_ok-put_json_rows.was in
    let at2 = left_behind _ _ _ _ _ _ _ _ _ at1 refl c.put_load_head.ensures c.in_ok-put_load_head.was in
    let at3 = left_behind _ _ _ _ _ _ _ _ _ at2 refl c.put_loads.ensures c.in_ok-put_loads.was in
    left_last _ _ _ _ _ _ at3 (rw c.deref.ensures.value at c.put_json_end.ensures)
