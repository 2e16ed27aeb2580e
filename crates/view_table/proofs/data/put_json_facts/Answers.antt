use Rattle.std.proofs.lemmas.Result.{err_from_is_err_and}
use Rattle.std.proofs.Common.{refl}
use Rattle.tab_io.proofs.SinkLemmas.{all_left, left_behind, left_broken, left_last}
use Rattle.view_table.proofs.data.put_json_facts.Goals as goal

pub returns-in_err-put_json_shares : goal.returns-in_err-put_json_shares
returns-in_err-put_json_shares g c =
    let p = err_from_is_err_and c.from_residual.result c.from_residual.ensures.1 in
    rw p.1 (left_broken _ _ _ _ _ _ _ _ _ (all_left _ _) refl c.put_json_shares.ensures c.in_err-put_json_shares.was)

pub returns-in_err-put_json_times : goal.returns-in_err-put_json_times
returns-in_err-put_json_times g c =
    let p = err_from_is_err_and c.from_residual-in_err-put_json_times.result c.from_residual-in_err-put_json_times.ensures.1 in
    let at0 = left_behind _ _ _ _ _ _ _ _ _ (all_left _ _) refl c.put_json_shares.ensures c.in_ok-put_json_shares.was in
    rw p.1 (left_broken _ _ _ _ _ _ _ _ _ at0 refl c.put_json_times.ensures c.in_err-put_json_times.was)

pub returns : goal.returns
returns g c =
    let at0 = left_behind _ _ _ _ _ _ _ _ _ (all_left _ _) refl c.put_json_shares.ensures c.in_ok-put_json_shares.was in
    let at1 = left_behind _ _ _ _ _ _ _ _ _ at0 refl c.put_json_times.ensures c.in_ok-put_json_times.was in
    left_last _ _ _ _ _ _ at1 c.put_json_home.ensures
