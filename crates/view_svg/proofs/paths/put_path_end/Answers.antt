use Rattle.std.proofs.lemmas.Result.{err_from_is_err_and}
use Rattle.std.proofs.Common.{refl}
use Rattle.tab_io.proofs.SinkLemmas.{all_left, left_behind, left_broken, left_last}
use Rattle.view_svg.proofs.paths.put_path_end.Goals as goal

pub returns-in_err-write_all : goal.returns-in_err-write_all
returns-in_err-write_all g c =
    let p = err_from_is_err_and c.from_residual.result c.from_residual.ensures.1 in
    rw p.1 (left_broken _ _ _ _ _ _ _ _ _ (all_left _ _) refl c.write_all.ensures c.in_err-write_all.was)

pub returns-in_err-put_note : goal.returns-in_err-put_note
returns-in_err-put_note g c =
    let p = err_from_is_err_and c.from_residual-in_err-put_note.result c.from_residual-in_err-put_note.ensures.1 in
    let at0 = left_behind _ _ _ _ _ _ _ _ _ (all_left _ _) refl c.write_all.ensures c.in_ok-write_all.was in
    rw p.1 (left_broken _ _ _ _ _ _ _ _ _ at0 refl c.put_note.ensures c.in_err-put_note.was)

pub returns-in_err-write_all-2 : goal.returns-in_err-write_all-2
returns-in_err-write_all-2 g c =
    let p = err_from_is_err_and c.from_residual-in_err-write_all-2.result c.from_residual-in_err-write_all-2.ensures.1 in
    let at0 = left_behind _ _ _ _ _ _ _ _ _ (all_left _ _) refl c.write_all.ensures c.in_ok-write_all.was in
    let at1 = left_behind _ _ _ _ _ _ _ _ _ at0 refl c.put_note.ensures c.in_ok-put_note.was in
    rw p.1 (left_broken _ _ _ _ _ _ _ _ _ at1 refl c.write_all-2.ensures c.in_err-write_all-2.was)

pub returns : goal.returns
returns g c =
    let at0 = left_behind _ _ _ _ _ _ _ _ _ (all_left _ _) refl c.write_all.ensures c.in_ok-write_all.was in
    let at1 = left_behind _ _ _ _ _ _ _ _ _ at0 refl c.put_note.ensures c.in_ok-put_note.was in
    let at2 = left_behind _ _ _ _ _ _ _ _ _ at1 refl c.write_all-2.ensures c.in_ok-write_all-2.was in
    left_last _ _ _ _ _ _ at2 c.write_all-3.ensures
