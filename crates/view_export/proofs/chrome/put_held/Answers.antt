use Rattle.std.proofs.lemmas.Result.{err_from_is_err_and}
use Rattle.std.proofs.Common.{refl}
use Rattle.tab_io.proofs.SinkLemmas.{all_left, left_behind, left_broken, left_last}
use Rattle.view_export.proofs.chrome.put_held.Goals as goal

pub returns-in_err-put_held_by : goal.returns-in_err-put_held_by
returns-in_err-put_held_by g c =
    let p = err_from_is_err_and c.from_residual.result c.from_residual.ensures.1 in
    rw p.1 (left_broken _ _ _ _ _ _ _ _ _ (all_left _ _) refl c.put_held_by.ensures c.in_err-put_held_by.was)

pub returns-in_err-put_tick : goal.returns-in_err-put_tick
returns-in_err-put_tick g c =
    let p = err_from_is_err_and c.from_residual-in_err-put_tick.result c.from_residual-in_err-put_tick.ensures.1 in
    let at0 = left_behind _ _ _ _ _ _ _ _ _ (all_left _ _) refl c.put_held_by.ensures c.in_ok-put_held_by.was in
    rw p.1 (left_broken _ _ _ _ _ _ _ _ _ at0 refl c.put_tick.ensures c.in_err-put_tick.was)

pub returns-in_err-write_all : goal.returns-in_err-write_all
returns-in_err-write_all g c =
    let p = err_from_is_err_and c.from_residual-in_err-write_all.result c.from_residual-in_err-write_all.ensures.1 in
    let at0 = left_behind _ _ _ _ _ _ _ _ _ (all_left _ _) refl c.put_held_by.ensures c.in_ok-put_held_by.was in
    let at1 = left_behind _ _ _ _ _ _ _ _ _ at0 refl c.put_tick.ensures c.in_ok-put_tick.was in
    rw p.1 (left_broken _ _ _ _ _ _ _ _ _ at1 refl c.write_all.ensures c.in_err-write_all.was)

pub returns-in_err-put_duration : goal.returns-in_err-put_duration
returns-in_err-put_duration g c =
    let p = err_from_is_err_and c.from_residual-in_err-put_duration.result c.from_residual-in_err-put_duration.ensures.1 in
    let at0 = left_behind _ _ _ _ _ _ _ _ _ (all_left _ _) refl c.put_held_by.ensures c.in_ok-put_held_by.was in
    let at1 = left_behind _ _ _ _ _ _ _ _ _ at0 refl c.put_tick.ensures c.in_ok-put_tick.was in
    let at2 = left_behind _ _ _ _ _ _ _ _ _ at1 refl c.write_all.ensures c.in_ok-write_all.was in
    rw p.1 (left_broken _ _ _ _ _ _ _ _ _ at2 refl c.put_duration.ensures c.in_err-put_duration.was)

pub returns : goal.returns
returns g c =
    let at0 = left_behind _ _ _ _ _ _ _ _ _ (all_left _ _) refl c.put_held_by.ensures c.in_ok-put_held_by.was in
    let at1 = left_behind _ _ _ _ _ _ _ _ _ at0 refl c.put_tick.ensures c.in_ok-put_tick.was in
    let at2 = left_behind _ _ _ _ _ _ _ _ _ at1 refl c.write_all.ensures c.in_ok-write_all.was in
    let at3 = left_behind _ _ _ _ _ _ _ _ _ at2 refl c.put_duration.ensures c.in_ok-put_duration.was in
    left_last _ _ _ _ _ _ at3 c.put_held_counts.ensures
