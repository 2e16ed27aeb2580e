use Rattle.std.proofs.lemmas.Result.{err_from_is_err_and}
use Rattle.std.proofs.Common.{refl}
use Rattle.tab_io.proofs.SinkLemmas.{all_left, left_behind, left_broken, left_last}
use Rattle.view_lanes.proofs.titles.put_title.Goals as goal

pub returns-in_err-put_kind : goal.returns-in_err-put_kind
returns-in_err-put_kind g c =
    let p = err_from_is_err_and c.from_residual.result c.from_residual.ensures.1 in
    rw p.1 (left_broken _ _ _ _ _ _ _ _ _ (all_left _ _) refl c.put_kind.ensures c.in_err-put_kind.was)

pub returns-in_err-put_counts : goal.returns-in_err-put_counts
returns-in_err-put_counts g c =
    let p = err_from_is_err_and c.from_residual-in_err-put_counts.result c.from_residual-in_err-put_counts.ensures.1 in
    let at0 = left_behind _ _ _ _ _ _ _ _ _ (all_left _ _) refl c.put_kind.ensures c.in_ok-put_kind.was in
    rw p.1 (left_broken _ _ _ _ _ _ _ _ _ at0 refl c.put_counts.ensures c.in_err-put_counts.was)

pub returns : goal.returns
returns g c =
    let at0 = left_behind _ _ _ _ _ _ _ _ _ (all_left _ _) refl c.put_kind.ensures c.in_ok-put_kind.was in
    let at1 = left_behind _ _ _ _ _ _ _ _ _ at0 refl c.put_counts.ensures c.in_ok-put_counts.was in
    left_last _ _ _ _ _ _ at1 c.put_lanes_word.ensures
