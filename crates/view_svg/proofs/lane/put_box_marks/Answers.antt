use Rattle.std.proofs.lemmas.Result.{err_from_is_err_and}
use Rattle.std.proofs.Common.{refl}
use Rattle.tab_io.proofs.SinkLemmas.{all_left, left_behind, left_broken, left_last}
use Rattle.view_svg.proofs.lane.put_box_marks.Goals as goal

pub returns-in_err-write_all : goal.returns-in_err-write_all
returns-in_err-write_all g c =
    let p = err_from_is_err_and c.from_residual.result c.from_residual.ensures.1 in
    rw p.1 (left_broken _ _ _ _ _ _ _ _ _ (all_left _ _) refl c.write_all.ensures c.in_err-write_all.was)

pub returns-in_err-put_cuts : goal.returns-in_err-put_cuts
returns-in_err-put_cuts g c =
    let p = err_from_is_err_and c.from_residual-in_err-put_cuts.result c.from_residual-in_err-put_cuts.ensures.1 in
    let at0 = left_behind _ _ _ _ _ _ _ _ _ (all_left _ _) refl c.write_all.ensures c.in_ok-write_all.was in
    rw p.1 (left_broken _ _ _ _ _ _ _ _ _ at0 refl c.put_cuts.ensures c.in_err-put_cuts.was)

pub returns-in_err-put_names_begin : goal.returns-in_err-put_names_begin
returns-in_err-put_names_begin g c =
    let p = err_from_is_err_and c.from_residual-in_err-put_names_begin.result c.from_residual-in_err-put_names_begin.ensures.1 in
    let at0 = left_behind _ _ _ _ _ _ _ _ _ (all_left _ _) refl c.write_all.ensures c.in_ok-write_all.was in
    let at1 = left_behind _ _ _ _ _ _ _ _ _ at0 refl c.put_cuts.ensures c.in_ok-put_cuts.was in
    rw p.1 (left_broken _ _ _ _ _ _ _ _ _ at1 refl c.put_names_begin.ensures c.in_err-put_names_begin.was)

pub returns-in_err-put_names : goal.returns-in_err-put_names
returns-in_err-put_names g c =
    let p = err_from_is_err_and c.from_residual-in_err-put_names.result c.from_residual-in_err-put_names.ensures.1 in
    let at0 = left_behind _ _ _ _ _ _ _ _ _ (all_left _ _) refl c.write_all.ensures c.in_ok-write_all.was in
    let at1 = left_behind _ _ _ _ _ _ _ _ _ at0 refl c.put_cuts.ensures c.in_ok-put_cuts.was in
    let at2 = left_behind _ _ _ _ _ _ _ _ _ at1 refl c.put_names_begin.ensures c.in_ok-put_names_begin.was in
    rw p.1 (left_broken _ _ _ _ _ _ _ _ _ at2 refl c.put_names.ensures c.in_err-put_names.was)

pub returns : goal.returns
returns g c =
    let at0 = left_behind _ _ _ _ _ _ _ _ _ (all_left _ _) refl c.write_all.ensures c.in_ok-write_all.was in
    let at1 = left_behind _ _ _ _ _ _ _ _ _ at0 refl c.put_cuts.ensures c.in_ok-put_cuts.was in
    let at2 = left_behind _ _ _ _ _ _ _ _ _ at1 refl c.put_names_begin.ensures c.in_ok-put_names_begin.was in
    let at3 = left_behind _ _ _ _ _ _ _ _ _ at2 refl c.put_names.ensures c.in_ok-put_names.was in
    left_last _ _ _ _ _ _ at3 c.write_all-2.ensures
