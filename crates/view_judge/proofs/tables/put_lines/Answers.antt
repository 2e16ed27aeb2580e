use Rattle.std.proofs.lemmas.Result.{err_from_is_err_and}
use Rattle.std.proofs.Common.{refl}
use Rattle.tab_io.proofs.SinkLemmas.{all_left, left_behind, left_broken, left_last}
use Rattle.view_judge.proofs.tables.put_lines.Goals as goal

pub returns-in_err-put_unseen : goal.returns-in_err-put_unseen
returns-in_err-put_unseen g c =
    let p = err_from_is_err_and c.from_residual.result c.from_residual.ensures.1 in
    rw p.1 (left_broken _ _ _ _ _ _ _ _ _ (all_left _ _) refl c.put_unseen.ensures c.in_err-put_unseen.was)

pub returns-in_err-put_shared : goal.returns-in_err-put_shared
returns-in_err-put_shared g c =
    let p = err_from_is_err_and c.from_residual-in_err-put_shared.result c.from_residual-in_err-put_shared.ensures.1 in
    let at0 = left_behind _ _ _ _ _ _ _ _ _ (all_left _ _) refl c.put_unseen.ensures c.in_ok-put_unseen.was in
    rw p.1 (left_broken _ _ _ _ _ _ _ _ _ at0 refl c.put_shared.ensures c.in_err-put_shared.was)

pub returns-in_err-put_doubled : goal.returns-in_err-put_doubled
returns-in_err-put_doubled g c =
    let p = err_from_is_err_and c.from_residual-in_err-put_doubled.result c.from_residual-in_err-put_doubled.ensures.1 in
    let at0 = left_behind _ _ _ _ _ _ _ _ _ (all_left _ _) refl c.put_unseen.ensures c.in_ok-put_unseen.was in
    let at1 = left_behind _ _ _ _ _ _ _ _ _ at0 refl c.put_shared.ensures c.in_ok-put_shared.was in
    rw p.1 (left_broken _ _ _ _ _ _ _ _ _ at1 refl c.put_doubled.ensures c.in_err-put_doubled.was)

pub returns-in_err-put_falls : goal.returns-in_err-put_falls
returns-in_err-put_falls g c =
    let p = err_from_is_err_and c.from_residual-in_err-put_falls.result c.from_residual-in_err-put_falls.ensures.1 in
    let at0 = left_behind _ _ _ _ _ _ _ _ _ (all_left _ _) refl c.put_unseen.ensures c.in_ok-put_unseen.was in
    let at1 = left_behind _ _ _ _ _ _ _ _ _ at0 refl c.put_shared.ensures c.in_ok-put_shared.was in
    let at2 = left_behind _ _ _ _ _ _ _ _ _ at1 refl c.put_doubled.ensures c.in_ok-put_doubled.was in
    rw p.1 (left_broken _ _ _ _ _ _ _ _ _ at2 refl c.put_falls.ensures c.in_err-put_falls.was)

pub returns : goal.returns
returns g c =
    let at0 = left_behind _ _ _ _ _ _ _ _ _ (all_left _ _) refl c.put_unseen.ensures c.in_ok-put_unseen.was in
    let at1 = left_behind _ _ _ _ _ _ _ _ _ at0 refl c.put_shared.ensures c.in_ok-put_shared.was in
    let at2 = left_behind _ _ _ _ _ _ _ _ _ at1 refl c.put_doubled.ensures c.in_ok-put_doubled.was in
    let at3 = left_behind _ _ _ _ _ _ _ _ _ at2 refl c.put_falls.ensures c.in_ok-put_falls.was in
    left_last _ _ _ _ _ _ at3 c.put_unknown.ensures
