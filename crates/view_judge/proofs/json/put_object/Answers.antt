use Rattle.std.proofs.lemmas.Result.{err_from_is_err_and}
use Rattle.std.proofs.Common.{refl}
use Rattle.tab_io.proofs.SinkLemmas.{all_left, left_behind, left_broken, left_last}
use Rattle.view_judge.proofs.json.put_object.Goals as goal

pub returns-in_err-put_times : goal.returns-in_err-put_times
returns-in_err-put_times g c =
    let p = err_from_is_err_and c.from_residual.result c.from_residual.ensures.1 in
    rw p.1 (left_broken _ _ _ _ _ _ _ _ _ (all_left _ _) refl c.put_times.ensures c.in_err-put_times.was)

pub returns-in_err-put_longest : goal.returns-in_err-put_longest
returns-in_err-put_longest g c =
    let p = err_from_is_err_and c.from_residual-in_err-put_longest.result c.from_residual-in_err-put_longest.ensures.1 in
    let at0 = left_behind _ _ _ _ _ _ _ _ _ (all_left _ _) refl c.put_times.ensures c.in_ok-put_times.was in
    rw p.1 (left_broken _ _ _ _ _ _ _ _ _ at0 refl c.put_longest.ensures c.in_err-put_longest.was)

pub returns-in_err-put_late : goal.returns-in_err-put_late
returns-in_err-put_late g c =
    let p = err_from_is_err_and c.from_residual-in_err-put_late.result c.from_residual-in_err-put_late.ensures.1 in
    let at0 = left_behind _ _ _ _ _ _ _ _ _ (all_left _ _) refl c.put_times.ensures c.in_ok-put_times.was in
    let at1 = left_behind _ _ _ _ _ _ _ _ _ at0 refl c.put_longest.ensures c.in_ok-put_longest.was in
    rw p.1 (left_broken _ _ _ _ _ _ _ _ _ at1 refl c.put_late.ensures c.in_err-put_late.was)

pub returns-in_err-put_least : goal.returns-in_err-put_least
returns-in_err-put_least g c =
    let p = err_from_is_err_and c.from_residual-in_err-put_least.result c.from_residual-in_err-put_least.ensures.1 in
    let at0 = left_behind _ _ _ _ _ _ _ _ _ (all_left _ _) refl c.put_times.ensures c.in_ok-put_times.was in
    let at1 = left_behind _ _ _ _ _ _ _ _ _ at0 refl c.put_longest.ensures c.in_ok-put_longest.was in
    let at2 = left_behind _ _ _ _ _ _ _ _ _ at1 refl c.put_late.ensures c.in_ok-put_late.was in
    rw p.1 (left_broken _ _ _ _ _ _ _ _ _ at2 refl c.put_least.ensures c.in_err-put_least.was)

pub returns-in_err-put_owed : goal.returns-in_err-put_owed
returns-in_err-put_owed g c =
    let p = err_from_is_err_and c.from_residual-in_err-put_owed.result c.from_residual-in_err-put_owed.ensures.1 in
    let at0 = left_behind _ _ _ _ _ _ _ _ _ (all_left _ _) refl c.put_times.ensures c.in_ok-put_times.was in
    let at1 = left_behind _ _ _ _ _ _ _ _ _ at0 refl c.put_longest.ensures c.in_ok-put_longest.was in
    let at2 = left_behind _ _ _ _ _ _ _ _ _ at1 refl c.put_late.ensures c.in_ok-put_late.was in
    let at3 = left_behind _ _ _ _ _ _ _ _ _ at2 refl c.put_least.ensures c.in_ok-put_least.was in
    rw p.1 (left_broken _ _ _ _ _ _ _ _ _ at3 refl c.put_owed.ensures c.in_err-put_owed.was)

pub returns : goal.returns
returns g c =
    let at0 = left_behind _ _ _ _ _ _ _ _ _ (all_left _ _) refl c.put_times.ensures c.in_ok-put_times.was in
    let at1 = left_behind _ _ _ _ _ _ _ _ _ at0 refl c.put_longest.ensures c.in_ok-put_longest.was in
    let at2 = left_behind _ _ _ _ _ _ _ _ _ at1 refl c.put_late.ensures c.in_ok-put_late.was in
    let at3 = left_behind _ _ _ _ _ _ _ _ _ at2 refl c.put_least.ensures c.in_ok-put_least.was in
    let at4 = left_behind _ _ _ _ _ _ _ _ _ at3 refl c.put_owed.ensures c.in_ok-put_owed.was in
    left_last _ _ _ _ _ _ at4 c.put_answers.ensures
