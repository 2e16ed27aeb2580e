use Rattle.std.proofs.lemmas.Result.{err_from_is_err_and}
use Rattle.std.proofs.Common.{refl}
use Rattle.tab_io.proofs.SinkLemmas.{all_left, left_behind, left_broken, left_last}
use Rattle.view_table.proofs.vm_diff.put_both.Goals as goal

pub returns-in_err-put_vcpus : goal.returns-in_err-put_vcpus
returns-in_err-put_vcpus g c =
    let p = err_from_is_err_and c.from_residual.result c.from_residual.ensures.1 in
    rw (p.1, ← c.count_in-count.ensures, ← c.count_in-now_count.ensures, ← c.moves_in-moves.ensures, ← c.share_in-share.ensures, ← c.share_in-now_share.ensures, ← c.wait_in-wait.ensures, ← c.wait_in-now_wait.ensures) (left_broken _ _ _ _ _ _ _ _ _ (all_left _ _) refl c.put_vcpus.ensures c.in_err-put_vcpus.was)

pub returns-in_err-put_moves : goal.returns-in_err-put_moves
returns-in_err-put_moves g c =
    let p = err_from_is_err_and c.from_residual-in_err-put_moves.result c.from_residual-in_err-put_moves.ensures.1 in
    let at0 = left_behind _ _ _ _ _ _ _ _ _ (all_left _ _) refl c.put_vcpus.ensures c.in_ok-put_vcpus.was in
    rw (p.1, ← c.count_in-count.ensures, ← c.count_in-now_count.ensures, ← c.moves_in-moves.ensures, ← c.share_in-share.ensures, ← c.share_in-now_share.ensures, ← c.wait_in-wait.ensures, ← c.wait_in-now_wait.ensures) (left_broken _ _ _ _ _ _ _ _ _ at0 refl c.put_moves.ensures c.in_err-put_moves.was)

pub returns-in_err-put_share : goal.returns-in_err-put_share
returns-in_err-put_share g c =
    let p = err_from_is_err_and c.from_residual-in_err-put_share.result c.from_residual-in_err-put_share.ensures.1 in
    let at0 = left_behind _ _ _ _ _ _ _ _ _ (all_left _ _) refl c.put_vcpus.ensures c.in_ok-put_vcpus.was in
    let at1 = left_behind _ _ _ _ _ _ _ _ _ at0 refl c.put_moves.ensures c.in_ok-put_moves.was in
    rw (p.1, ← c.count_in-count.ensures, ← c.count_in-now_count.ensures, ← c.moves_in-moves.ensures, ← c.share_in-share.ensures, ← c.share_in-now_share.ensures, ← c.wait_in-wait.ensures, ← c.wait_in-now_wait.ensures) (left_broken _ _ _ _ _ _ _ _ _ at1 refl c.put_share.ensures c.in_err-put_share.was)

pub returns : goal.returns
returns g c =
    let at0 = left_behind _ _ _ _ _ _ _ _ _ (all_left _ _) refl c.put_vcpus.ensures c.in_ok-put_vcpus.was in
    let at1 = left_behind _ _ _ _ _ _ _ _ _ at0 refl c.put_moves.ensures c.in_ok-put_moves.was in
    let at2 = left_behind _ _ _ _ _ _ _ _ _ at1 refl c.put_share.ensures c.in_ok-put_share.was in
    rw (← c.count_in-count.ensures, ← c.count_in-now_count.ensures, ← c.moves_in-moves.ensures, ← c.share_in-share.ensures, ← c.share_in-now_share.ensures, ← c.wait_in-wait.ensures, ← c.wait_in-now_wait.ensures) (left_last _ _ _ _ _ _ at2 c.put_wait.ensures)
