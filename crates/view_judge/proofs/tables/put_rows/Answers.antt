use Rattle.std.proofs.lemmas.Result.{err_from_is_err_and}
use Rattle.std.proofs.Common.{refl}
use Rattle.tab_io.proofs.SinkLemmas.{all_left, left_behind, left_broken, left_last}
use Rattle.view_judge.proofs.tables.put_rows.Goals as goal

pub returns-in_err-put_share_head : goal.returns-in_err-put_share_head
returns-in_err-put_share_head g c =
    let p = err_from_is_err_and c.from_residual.result c.from_residual.ensures.1 in
    rw p.1 (left_broken _ _ _ _ _ _ _ _ _ (all_left _ _) refl c.put_share_head.ensures c.in_err-put_share_head.was)

pub returns-in_err-put_shares : goal.returns-in_err-put_shares
returns-in_err-put_shares g c =
    let p = err_from_is_err_and c.from_residual-in_err-put_shares.result c.from_residual-in_err-put_shares.ensures.1 in
    let at0 = left_behind _ _ _ _ _ _ _ _ _ (all_left _ _) refl c.put_share_head.ensures c.in_ok-put_share_head.was in
    rw p.1 (left_broken _ _ _ _ _ _ _ _ _ at0 refl c.put_shares.ensures c.in_err-put_shares.was)

pub returns-in_err-put_wait_head : goal.returns-in_err-put_wait_head
returns-in_err-put_wait_head g c =
    let p = err_from_is_err_and c.from_residual-in_err-put_wait_head.result c.from_residual-in_err-put_wait_head.ensures.1 in
    let at0 = left_behind _ _ _ _ _ _ _ _ _ (all_left _ _) refl c.put_share_head.ensures c.in_ok-put_share_head.was in
    let at1 = left_behind _ _ _ _ _ _ _ _ _ at0 refl c.put_shares.ensures c.in_ok-put_shares.was in
    rw p.1 (left_broken _ _ _ _ _ _ _ _ _ at1 refl c.put_wait_head.ensures c.in_err-put_wait_head.was)

pub returns : goal.returns
returns g c =
    let at0 = left_behind _ _ _ _ _ _ _ _ _ (all_left _ _) refl c.put_share_head.ensures c.in_ok-put_share_head.was in
    let at1 = left_behind _ _ _ _ _ _ _ _ _ at0 refl c.put_shares.ensures c.in_ok-put_shares.was in
    let at2 = left_behind _ _ _ _ _ _ _ _ _ at1 refl c.put_wait_head.ensures c.in_ok-put_wait_head.was in
    left_last _ _ _ _ _ _ at2 c.put_waits.ensures
