use Rattle.std.proofs.lemmas.Result.{err_from_is_err_and}
use Rattle.std.proofs.Common.{refl}
use Rattle.tab_io.proofs.SinkLemmas.{all_left, left_behind, left_broken, left_last}
use Rattle.view_table.proofs.data.put_load_text.Goals as goal

pub returns-in_err-put_comma : goal.returns-in_err-put_comma
returns-in_err-put_comma g c =
    let p = err_from_is_err_and c.from_residual.result c.from_residual.ensures.1 in
    rw p.1 (left_broken _ _ _ _ _ _ _ _ _ (all_left _ _) refl c.put_comma.ensures c.in_err-put_comma.was)

pub returns : goal.returns
returns g c =
    let at0 = left_behind _ _ _ _ _ _ _ _ _ (all_left _ _) refl c.put_comma.ensures c.in_ok-put_comma.was in
    rw (← c.of_round-part.ensures.value) (left_last _ _ _ _ _ _ at0 c.put_number.ensures)
