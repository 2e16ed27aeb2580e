use Rattle.std.proofs.lemmas.Result.{err_from_is_err_and}
use Rattle.std.proofs.Common.{refl}
use Rattle.tab_io.proofs.SinkLemmas.{all_left, left_behind, left_broken, left_last}
use Rattle.view_export.proofs.chrome.put_chrome.Goals as goal

pub returns-in_err-write_all : goal.returns-in_err-write_all
returns-in_err-write_all g c =
    let p = err_from_is_err_and c.from_residual.result c.from_residual.ensures.1 in
    rw p.1 (left_broken _ _ _ _ _ _ _ _ _ (all_left _ _) refl c.write_all.ensures c.in_err-write_all.was)

pub returns-in_err-put_cores : goal.returns-in_err-put_cores
returns-in_err-put_cores g c =
    let p = err_from_is_err_and c.from_residual-in_err-put_cores.result c.from_residual-in_err-put_cores.ensures.1 in
    let at0 = left_behind _ _ _ _ _ _ _ _ _ (all_left _ _) refl c.write_all.ensures c.in_ok-write_all.was in
    rw p.1 (left_broken _ _ _ _ _ _ _ _ _ at0 refl c.put_cores.ensures c.in_err-put_cores.was)

pub returns-in_err-put_stretches : goal.returns-in_err-put_stretches
returns-in_err-put_stretches g c =
    let p = err_from_is_err_and c.from_residual-in_err-put_stretches.result c.from_residual-in_err-put_stretches.ensures.1 in
    let at0 = left_behind _ _ _ _ _ _ _ _ _ (all_left _ _) refl c.write_all.ensures c.in_ok-write_all.was in
    let at1 = left_behind _ _ _ _ _ _ _ _ _ at0 refl c.put_cores.ensures c.in_ok-put_cores.was in
    rw p.1 (left_broken _ _ _ _ _ _ _ _ _ at1 refl c.put_stretches.ensures c.in_err-put_stretches.was)

pub returns-in_err-put_entries : goal.returns-in_err-put_entries
returns-in_err-put_entries g c =
    let p = err_from_is_err_and c.from_residual-in_err-put_entries.result c.from_residual-in_err-put_entries.ensures.1 in
    let at0 = left_behind _ _ _ _ _ _ _ _ _ (all_left _ _) refl c.write_all.ensures c.in_ok-write_all.was in
    let at1 = left_behind _ _ _ _ _ _ _ _ _ at0 refl c.put_cores.ensures c.in_ok-put_cores.was in
    let at2 = left_behind _ _ _ _ _ _ _ _ _ at1 refl c.put_stretches.ensures c.in_ok-put_stretches.was in
    rw p.1 (left_broken _ _ _ _ _ _ _ _ _ at2 refl c.put_entries.ensures c.in_err-put_entries.was)

pub returns : goal.returns
returns g c =
    let at0 = left_behind _ _ _ _ _ _ _ _ _ (all_left _ _) refl c.write_all.ensures c.in_ok-write_all.was in
    let at1 = left_behind _ _ _ _ _ _ _ _ _ at0 refl c.put_cores.ensures c.in_ok-put_cores.was in
    let at2 = left_behind _ _ _ _ _ _ _ _ _ at1 refl c.put_stretches.ensures c.in_ok-put_stretches.was in
    let at3 = left_behind _ _ _ _ _ _ _ _ _ at2 refl c.put_entries.ensures c.in_ok-put_entries.was in
    left_last _ _ _ _ _ _ at3 c.write_all-2.ensures
