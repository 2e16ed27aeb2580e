use Rattle.std.proofs.lemmas.Result.{err_from_is_err_and}
use Rattle.std.proofs.Common.{refl}
use Rattle.tab_io.proofs.SinkLemmas.{all_left, left_behind, left_broken, left_last}
use Rattle.view_table.proofs.diff.put_changes.Goals as goal

pub returns-in_err-put_home : goal.returns-in_err-put_home
returns-in_err-put_home g c =
    let p = err_from_is_err_and c.from_residual.result c.from_residual.ensures.1 in
    rw (p.1, ← c.share_of-before.ensures.value, ← c.share_of-after.ensures.value) (left_broken _ _ _ _ _ _ _ _ _ (all_left _ _) refl c.put_home.ensures c.in_err-put_home.was)

pub returns-in_err-put_share : goal.returns-in_err-put_share
returns-in_err-put_share g c =
    let p = err_from_is_err_and c.from_residual-in_err-put_share.result c.from_residual-in_err-put_share.ensures.1 in
    let at0 = left_behind _ _ _ _ _ _ _ _ _ (all_left _ _) refl c.put_home.ensures c.in_ok-put_home.was in
    rw (p.1, ← c.share_of-before.ensures.value, ← c.share_of-after.ensures.value) (left_broken _ _ _ _ _ _ _ _ _ at0 refl c.put_share.ensures c.in_err-put_share.was)

pub returns-in_err-put_period : goal.returns-in_err-put_period
returns-in_err-put_period g c =
    let p = err_from_is_err_and c.from_residual-in_err-put_period.result c.from_residual-in_err-put_period.ensures.1 in
    let at0 = left_behind _ _ _ _ _ _ _ _ _ (all_left _ _) refl c.put_home.ensures c.in_ok-put_home.was in
    let at1 = left_behind _ _ _ _ _ _ _ _ _ at0 refl c.put_share.ensures c.in_ok-put_share.was in
    rw (p.1, ← c.share_of-before.ensures.value, ← c.share_of-after.ensures.value) (left_broken _ _ _ _ _ _ _ _ _ at1 refl c.put_period.ensures c.in_err-put_period.was)

pub returns : goal.returns
returns g c =
    let at0 = left_behind _ _ _ _ _ _ _ _ _ (all_left _ _) refl c.put_home.ensures c.in_ok-put_home.was in
    let at1 = left_behind _ _ _ _ _ _ _ _ _ at0 refl c.put_share.ensures c.in_ok-put_share.was in
    let at2 = left_behind _ _ _ _ _ _ _ _ _ at1 refl c.put_period.ensures c.in_ok-put_period.was in
    rw (← c.share_of-before.ensures.value, ← c.share_of-after.ensures.value) (left_last _ _ _ _ _ _ at2 c.put_wait.ensures)
