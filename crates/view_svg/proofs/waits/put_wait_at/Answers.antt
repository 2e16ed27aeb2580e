use Rattle.std.proofs.lemmas.Result.{err_from_is_err_and}
use Rattle.std.proofs.Common.{refl}
use Rattle.tab_io.proofs.SinkLemmas.{all_left, left_behind, left_broken, left_last}
use Rattle.view_svg.specs.Lanes.{wait_at}
use Rattle.view_svg.proofs.waits.put_wait_at.Goals as goal

pub returns-in_err-write_all : goal.returns-in_err-write_all
unfolding wait_at
returns-in_err-write_all g c =
    let p = err_from_is_err_and c.from_residual.result c.from_residual.ensures.1 in
    rw p.1 (left_broken _ _ _ _ _ _ _ _ _ (all_left _ _) refl c.write_all.ensures c.in_err-write_all.was)

pub returns-in_err-put_first_part : goal.returns-in_err-put_first_part
unfolding wait_at
returns-in_err-put_first_part g c =
    let p = err_from_is_err_and c.from_residual-in_err-put_first_part.result c.from_residual-in_err-put_first_part.ensures.1 in
    let at0 = left_behind _ _ _ _ _ _ _ _ _ (all_left _ _) refl c.write_all.ensures c.in_ok-write_all.was in
    rw p.1 (left_broken _ _ _ _ _ _ _ _ _ at0 refl c.put_first_part.ensures c.in_err-put_first_part.was)

pub returns-in_err-put_second_part : goal.returns-in_err-put_second_part
unfolding wait_at
returns-in_err-put_second_part g c =
    let p = err_from_is_err_and c.from_residual-in_err-put_second_part.result c.from_residual-in_err-put_second_part.ensures.1 in
    let at0 = left_behind _ _ _ _ _ _ _ _ _ (all_left _ _) refl c.write_all.ensures c.in_ok-write_all.was in
    let at1 = left_behind _ _ _ _ _ _ _ _ _ at0 refl c.put_first_part.ensures c.in_ok-put_first_part.was in
    rw p.1 (left_broken _ _ _ _ _ _ _ _ _ at1 refl c.put_second_part.ensures c.in_err-put_second_part.was)

pub returns : goal.returns
unfolding wait_at
returns g c =
    let at0 = left_behind _ _ _ _ _ _ _ _ _ (all_left _ _) refl c.write_all.ensures c.in_ok-write_all.was in
    let at1 = left_behind _ _ _ _ _ _ _ _ _ at0 refl c.put_first_part.ensures c.in_ok-put_first_part.was in
    let at2 = left_behind _ _ _ _ _ _ _ _ _ at1 refl c.put_second_part.ensures c.in_ok-put_second_part.was in
    left_last _ _ _ _ _ _ at2 c.put_note.ensures
