use Rattle.std.proofs.lemmas.Result.{err_from_is_err_and}
use Rattle.std.proofs.Common.{refl}
use Rattle.tab_io.proofs.SinkLemmas.{all_left, left_behind, left_broken, left_last}
use Rattle.view_export.proofs.chrome.put_entry.Goals as goal

pub returns-in_err-put_entry_by : goal.returns-in_err-put_entry_by
returns-in_err-put_entry_by g c =
    let p = err_from_is_err_and c.from_residual.result c.from_residual.ensures.1 in
    rw p.1 (left_broken _ _ _ _ _ _ _ _ _ (all_left _ _) refl c.put_entry_by.ensures c.in_err-put_entry_by.was)

pub returns-in_err-put_round : goal.returns-in_err-put_round
returns-in_err-put_round g c =
    let p = err_from_is_err_and c.from_residual-in_err-put_round.result c.from_residual-in_err-put_round.ensures.1 in
    let at0 = left_behind _ _ _ _ _ _ _ _ _ (all_left _ _) refl c.put_entry_by.ensures c.in_ok-put_entry_by.was in
    rw p.1 (left_broken _ _ _ _ _ _ _ _ _ at0 refl c.put_round.ensures c.in_err-put_round.was)

pub returns : goal.returns
returns g c =
    let at0 = left_behind _ _ _ _ _ _ _ _ _ (all_left _ _) refl c.put_entry_by.ensures c.in_ok-put_entry_by.was in
    let at1 = left_behind _ _ _ _ _ _ _ _ _ at0 refl c.put_round.ensures c.in_ok-put_round.was in
    left_last _ _ _ _ _ _ at1 c.put_entry_count.ensures
