use Rattle.std.proofs.lemmas.Result.{err_from_is_err_and}
use Rattle.std.proofs.Common.{refl}
use Rattle.tab_io.proofs.SinkLemmas.{all_left, left_behind, left_broken, left_last}
use Rattle.view_chart.proofs.axis.put_axis_of.Goals as goal

pub returns-in_err-write_all : goal.returns-in_err-write_all
returns-in_err-write_all g c =
    let p = err_from_is_err_and c.from_residual.result c.from_residual.ensures.1 in
    rw p.1 (left_broken _ _ _ _ _ _ _ _ _ (all_left _ _) refl c.write_all.ensures c.in_err-write_all.was)

pub returns-in_err-put_lines : goal.returns-in_err-put_lines
returns-in_err-put_lines g c =
    let p = err_from_is_err_and c.from_residual-in_err-put_lines.result c.from_residual-in_err-put_lines.ensures.1 in
    let at0 = left_behind _ _ _ _ _ _ _ _ _ (all_left _ _) refl c.write_all.ensures c.in_ok-write_all.was in
    rw p.1 (left_broken _ _ _ _ _ _ _ _ _ at0 refl c.put_lines.ensures c.in_err-put_lines.was)

pub returns-in_err-write_all-2 : goal.returns-in_err-write_all-2
returns-in_err-write_all-2 g c =
    let p = err_from_is_err_and c.from_residual-in_err-write_all-2.result c.from_residual-in_err-write_all-2.ensures.1 in
    let at0 = left_behind _ _ _ _ _ _ _ _ _ (all_left _ _) refl c.write_all.ensures c.in_ok-write_all.was in
    let at1 = left_behind _ _ _ _ _ _ _ _ _ at0 refl c.put_lines.ensures c.in_ok-put_lines.was in
    rw p.1 (left_broken _ _ _ _ _ _ _ _ _ at1 refl c.write_all-2.ensures c.in_err-write_all-2.was)

pub returns-in_err-put_numbers : goal.returns-in_err-put_numbers
returns-in_err-put_numbers g c =
    let p = err_from_is_err_and c.from_residual-in_err-put_numbers.result c.from_residual-in_err-put_numbers.ensures.1 in
    let at0 = left_behind _ _ _ _ _ _ _ _ _ (all_left _ _) refl c.write_all.ensures c.in_ok-write_all.was in
    let at1 = left_behind _ _ _ _ _ _ _ _ _ at0 refl c.put_lines.ensures c.in_ok-put_lines.was in
    let at2 = left_behind _ _ _ _ _ _ _ _ _ at1 refl c.write_all-2.ensures c.in_ok-write_all-2.was in
    rw p.1 (left_broken _ _ _ _ _ _ _ _ _ at2 refl c.put_numbers.ensures c.in_err-put_numbers.was)

pub returns-in_err-write_all-3 : goal.returns-in_err-write_all-3
returns-in_err-write_all-3 g c =
    let p = err_from_is_err_and c.from_residual-in_err-write_all-3.result c.from_residual-in_err-write_all-3.ensures.1 in
    let at0 = left_behind _ _ _ _ _ _ _ _ _ (all_left _ _) refl c.write_all.ensures c.in_ok-write_all.was in
    let at1 = left_behind _ _ _ _ _ _ _ _ _ at0 refl c.put_lines.ensures c.in_ok-put_lines.was in
    let at2 = left_behind _ _ _ _ _ _ _ _ _ at1 refl c.write_all-2.ensures c.in_ok-write_all-2.was in
    let at3 = left_behind _ _ _ _ _ _ _ _ _ at2 refl c.put_numbers.ensures c.in_ok-put_numbers.was in
    rw p.1 (left_broken _ _ _ _ _ _ _ _ _ at3 refl c.write_all-3.ensures c.in_err-write_all-3.was)

pub returns-in_err-put_unit : goal.returns-in_err-put_unit
returns-in_err-put_unit g c =
    let p = err_from_is_err_and c.from_residual-in_err-put_unit.result c.from_residual-in_err-put_unit.ensures.1 in
    let at0 = left_behind _ _ _ _ _ _ _ _ _ (all_left _ _) refl c.write_all.ensures c.in_ok-write_all.was in
    let at1 = left_behind _ _ _ _ _ _ _ _ _ at0 refl c.put_lines.ensures c.in_ok-put_lines.was in
    let at2 = left_behind _ _ _ _ _ _ _ _ _ at1 refl c.write_all-2.ensures c.in_ok-write_all-2.was in
    let at3 = left_behind _ _ _ _ _ _ _ _ _ at2 refl c.put_numbers.ensures c.in_ok-put_numbers.was in
    let at4 = left_behind _ _ _ _ _ _ _ _ _ at3 refl c.write_all-3.ensures c.in_ok-write_all-3.was in
    rw p.1 (left_broken _ _ _ _ _ _ _ _ _ at4 refl c.put_unit.ensures c.in_err-put_unit.was)

pub returns : goal.returns
returns g c =
    let at0 = left_behind _ _ _ _ _ _ _ _ _ (all_left _ _) refl c.write_all.ensures c.in_ok-write_all.was in
    let at1 = left_behind _ _ _ _ _ _ _ _ _ at0 refl c.put_lines.ensures c.in_ok-put_lines.was in
    let at2 = left_behind _ _ _ _ _ _ _ _ _ at1 refl c.write_all-2.ensures c.in_ok-write_all-2.was in
    let at3 = left_behind _ _ _ _ _ _ _ _ _ at2 refl c.put_numbers.ensures c.in_ok-put_numbers.was in
    let at4 = left_behind _ _ _ _ _ _ _ _ _ at3 refl c.write_all-3.ensures c.in_ok-write_all-3.was in
    let at5 = left_behind _ _ _ _ _ _ _ _ _ at4 refl c.put_unit.ensures c.in_ok-put_unit.was in
    left_last _ _ _ _ _ _ at5 c.write_all-4.ensures
