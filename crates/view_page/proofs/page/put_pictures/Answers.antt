use Rattle.std.proofs.lemmas.Result.{err_from_is_err_and}
use Rattle.std.proofs.Common.{refl}
use Rattle.tab_io.proofs.SinkLemmas.{all_left}
use Rattle.view_page.proofs.PartLemmas.{part_behind, part_broken, part_last}
use Rattle.view_page.proofs.page.put_pictures.Goals as goal

pub returns-in_err-put_text : goal.returns-in_err-put_text
returns-in_err-put_text g c =
    let p = err_from_is_err_and c.from_residual.result c.from_residual.ensures.1 in
    rw (p.1, p.2) (part_broken _ _ _ _ _ _ _ _ _ (all_left _ _) refl c.put_text.ensures c.in_err-put_text.was)

pub returns-in_err-put_picture : goal.returns-in_err-put_picture
returns-in_err-put_picture g c =
    let p = err_from_is_err_and c.from_residual-in_err-put_picture.result c.from_residual-in_err-put_picture.ensures.1 in
    let at0 = part_behind _ _ _ _ _ _ _ _ _ (all_left _ _) refl c.put_text.ensures c.in_ok-put_text.was in
    rw (p.1, p.2) (part_broken _ _ _ _ _ _ _ _ _ at0 refl c.put_picture.ensures c.in_err-put_picture.was)

pub returns-in_err-put_text-2 : goal.returns-in_err-put_text-2
returns-in_err-put_text-2 g c =
    let p = err_from_is_err_and c.from_residual-in_err-put_text-2.result c.from_residual-in_err-put_text-2.ensures.1 in
    let at0 = part_behind _ _ _ _ _ _ _ _ _ (all_left _ _) refl c.put_text.ensures c.in_ok-put_text.was in
    let at1 = part_behind _ _ _ _ _ _ _ _ _ at0 refl c.put_picture.ensures c.in_ok-put_picture.was in
    rw (p.1, p.2) (part_broken _ _ _ _ _ _ _ _ _ at1 refl c.put_text-2.ensures c.in_err-put_text-2.was)

pub returns-in_err-put_picture-2 : goal.returns-in_err-put_picture-2
returns-in_err-put_picture-2 g c =
    let p = err_from_is_err_and c.from_residual-in_err-put_picture-2.result c.from_residual-in_err-put_picture-2.ensures.1 in
    let at0 = part_behind _ _ _ _ _ _ _ _ _ (all_left _ _) refl c.put_text.ensures c.in_ok-put_text.was in
    let at1 = part_behind _ _ _ _ _ _ _ _ _ at0 refl c.put_picture.ensures c.in_ok-put_picture.was in
    let at2 = part_behind _ _ _ _ _ _ _ _ _ at1 refl c.put_text-2.ensures c.in_ok-put_text-2.was in
    rw (p.1, p.2) (part_broken _ _ _ _ _ _ _ _ _ at2 refl c.put_picture-2.ensures c.in_err-put_picture-2.was)

pub returns : goal.returns
returns g c =
    let at0 = part_behind _ _ _ _ _ _ _ _ _ (all_left _ _) refl c.put_text.ensures c.in_ok-put_text.was in
    let at1 = part_behind _ _ _ _ _ _ _ _ _ at0 refl c.put_picture.ensures c.in_ok-put_picture.was in
    let at2 = part_behind _ _ _ _ _ _ _ _ _ at1 refl c.put_text-2.ensures c.in_ok-put_text-2.was in
    let at3 = part_behind _ _ _ _ _ _ _ _ _ at2 refl c.put_picture-2.ensures c.in_ok-put_picture-2.was in
    part_last _ _ _ _ _ _ at3 c.put_text-3.ensures
