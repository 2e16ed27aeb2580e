use Rattle.std.proofs.lemmas.Result.{err_from_is_err_and}
use Rattle.std.proofs.Common.{refl}
use Rattle.tab_io.proofs.SinkLemmas.{all_left}
use Rattle.view_page.proofs.PartLemmas.{part_behind, part_broken, part_last}
use Rattle.view_page.proofs.page.write_page.Goals as goal

pub returns-in_err-put_top : goal.returns-in_err-put_top
returns-in_err-put_top g c =
    let p = err_from_is_err_and c.from_residual.result c.from_residual.ensures.1 in
    rw (p.1, p.2) (part_broken _ _ _ _ _ _ _ _ _ (all_left _ _) refl c.put_top.ensures c.in_err-put_top.was)

pub returns-in_err-put_tables : goal.returns-in_err-put_tables
returns-in_err-put_tables g c =
    let p = err_from_is_err_and c.from_residual-in_err-put_tables.result c.from_residual-in_err-put_tables.ensures.1 in
    let at0 = part_behind _ _ _ _ _ _ _ _ _ (all_left _ _) refl c.put_top.ensures c.in_ok-put_top.was in
    rw (p.1, p.2) (part_broken _ _ _ _ _ _ _ _ _ at0 refl c.put_tables.ensures c.in_err-put_tables.was)

pub returns-in_err-put_pictures : goal.returns-in_err-put_pictures
returns-in_err-put_pictures g c =
    let p = err_from_is_err_and c.from_residual-in_err-put_pictures.result c.from_residual-in_err-put_pictures.ensures.1 in
    let at0 = part_behind _ _ _ _ _ _ _ _ _ (all_left _ _) refl c.put_top.ensures c.in_ok-put_top.was in
    let at1 = part_behind _ _ _ _ _ _ _ _ _ at0 refl c.put_tables.ensures c.in_ok-put_tables.was in
    rw (p.1, p.2) (part_broken _ _ _ _ _ _ _ _ _ at1 refl c.put_pictures.ensures c.in_err-put_pictures.was)

pub returns-in_err-put_script : goal.returns-in_err-put_script
returns-in_err-put_script g c =
    let p = err_from_is_err_and c.from_residual-in_err-put_script.result c.from_residual-in_err-put_script.ensures.1 in
    let at0 = part_behind _ _ _ _ _ _ _ _ _ (all_left _ _) refl c.put_top.ensures c.in_ok-put_top.was in
    let at1 = part_behind _ _ _ _ _ _ _ _ _ at0 refl c.put_tables.ensures c.in_ok-put_tables.was in
    let at2 = part_behind _ _ _ _ _ _ _ _ _ at1 refl c.put_pictures.ensures c.in_ok-put_pictures.was in
    rw (p.1, p.2) (part_broken _ _ _ _ _ _ _ _ _ at2 refl c.put_script.ensures c.in_err-put_script.was)

pub returns-in_err-put_differences : goal.returns-in_err-put_differences
returns-in_err-put_differences g c =
    let p = err_from_is_err_and c.from_residual-in_err-put_differences.result c.from_residual-in_err-put_differences.ensures.1 in
    let at0 = part_behind _ _ _ _ _ _ _ _ _ (all_left _ _) refl c.put_top.ensures c.in_ok-put_top.was in
    let at1 = part_behind _ _ _ _ _ _ _ _ _ at0 refl c.put_tables.ensures c.in_ok-put_tables.was in
    let at2 = part_behind _ _ _ _ _ _ _ _ _ at1 refl c.put_pictures.ensures c.in_ok-put_pictures.was in
    let at3 = part_behind _ _ _ _ _ _ _ _ _ at2 refl c.put_script.ensures c.in_ok-put_script.was in
    rw (p.1, p.2) (part_broken _ _ _ _ _ _ _ _ _ at3 refl c.put_differences.ensures c.in_err-put_differences.was)

pub returns : goal.returns
returns g c =
    let at0 = part_behind _ _ _ _ _ _ _ _ _ (all_left _ _) refl c.put_top.ensures c.in_ok-put_top.was in
    let at1 = part_behind _ _ _ _ _ _ _ _ _ at0 refl c.put_tables.ensures c.in_ok-put_tables.was in
    let at2 = part_behind _ _ _ _ _ _ _ _ _ at1 refl c.put_pictures.ensures c.in_ok-put_pictures.was in
    let at3 = part_behind _ _ _ _ _ _ _ _ _ at2 refl c.put_script.ensures c.in_ok-put_script.was in
    let at4 = part_behind _ _ _ _ _ _ _ _ _ at3 refl c.put_differences.ensures c.in_ok-put_differences.was in
    part_last _ _ _ _ _ _ at4 c.put_text.ensures
