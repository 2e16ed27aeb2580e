use Rattle.std.proofs.lemmas.Result.{err_from_is_err_and}
use Rattle.std.proofs.Common.{refl}
use Rattle.tab_io.proofs.SinkLemmas.{all_left, left_behind, left_broken, left_last}
use Rattle.view_page.specs.Pages.{script_text}
use Rattle.view_page.proofs.page.put_script_text.Goals as goal

pub returns-in_err-write_all : goal.returns-in_err-write_all
unfolding script_text
returns-in_err-write_all g c =
    let p = err_from_is_err_and c.from_residual.result c.from_residual.ensures.1 in
    rw p.1 (left_broken _ _ _ _ _ _ _ _ _ (all_left _ _) refl c.write_all.ensures c.in_err-write_all.was)

pub returns-in_err-put_escaped : goal.returns-in_err-put_escaped
unfolding script_text
returns-in_err-put_escaped g c =
    let p = err_from_is_err_and c.from_residual-in_err-put_escaped.result c.from_residual-in_err-put_escaped.ensures.1 in
    let at0 = left_behind _ _ _ _ _ _ _ _ _ (all_left _ _) refl c.write_all.ensures c.in_ok-write_all.was in
    rw p.1 (left_broken _ _ _ _ _ _ _ _ _ at0 refl c.put_escaped.ensures c.in_err-put_escaped.was)

pub returns : goal.returns
unfolding script_text
returns g c =
    let at0 = left_behind _ _ _ _ _ _ _ _ _ (all_left _ _) refl c.write_all.ensures c.in_ok-write_all.was in
    let at1 = left_behind _ _ _ _ _ _ _ _ _ at0 refl c.put_escaped.ensures c.in_ok-put_escaped.was in
    left_last _ _ _ _ _ _ at1 c.write_all-2.ensures
