use Rattle.std.proofs.lemmas.Result.{err_from_is_err_and}
use Rattle.std.proofs.Common.{refl}
use Rattle.tab_io.proofs.SinkLemmas.{all_left, left_behind, left_broken, left_last}
use Rattle.view_chart.proofs.legend.put_entry_at.Goals as goal

pub returns-in_err-put_tone : goal.returns-in_err-put_tone
returns-in_err-put_tone g c =
    let p = err_from_is_err_and c.from_residual.result c.from_residual.ensures.1 in
    rw p.1 (left_broken _ _ _ _ _ _ _ _ _ (all_left _ _) refl c.put_tone.ensures c.in_err-put_tone.was)

pub returns-in_err-put_name : goal.returns-in_err-put_name
returns-in_err-put_name g c =
    let p = err_from_is_err_and c.from_residual-in_err-put_name.result c.from_residual-in_err-put_name.ensures.1 in
    let at0 = left_behind _ _ _ _ _ _ _ _ _ (all_left _ _) refl c.put_tone.ensures c.in_ok-put_tone.was in
    rw p.1 (left_broken _ _ _ _ _ _ _ _ _ at0 refl c.put_name.ensures c.in_err-put_name.was)

pub returns : goal.returns
returns g c =
    let at0 = left_behind _ _ _ _ _ _ _ _ _ (all_left _ _) refl c.put_tone.ensures c.in_ok-put_tone.was in
    let at1 = left_behind _ _ _ _ _ _ _ _ _ at0 refl c.put_name.ensures c.in_ok-put_name.was in
    left_last _ _ _ _ _ _ at1 c.put_task.ensures
