use Rattle.std.proofs.Common.{refl}
use Rattle.std.proofs.lemmas.Result.{err_from_is_err_and}
use Rattle.tab_io.proofs.SinkLemmas.{all_left, left_behind, left_broken, left_last}
use Rattle.view_text.proofs.text_chart.put_text.Goals as goal

pub returns-in_err-put_head_lines : goal.returns-in_err-put_head_lines
returns-in_err-put_head_lines g c =
    let p = err_from_is_err_and c.from_residual.result c.from_residual.ensures.1 in
    rw p.1 (left_broken _ _ _ _ _ _ _ _ _ (all_left _ _) refl c.put_head_lines.ensures c.in_err-put_head_lines.was)

pub returns-in_err-put_lines : goal.returns-in_err-put_lines
returns-in_err-put_lines g c =
    let p = err_from_is_err_and c.from_residual-in_err-put_lines.result c.from_residual-in_err-put_lines.ensures.1 in
    let at0 = left_behind _ _ _ _ _ _ _ _ _ (all_left _ _) refl c.put_head_lines.ensures c.in_ok-put_head_lines.was in
    rw p.1 (left_broken _ _ _ _ _ _ _ _ _ at0 refl c.put_lines.ensures c.in_err-put_lines.was)

pub returns-in_err-put_keys : goal.returns-in_err-put_keys
returns-in_err-put_keys g c =
    let p = err_from_is_err_and c.from_residual-in_err-put_keys.result c.from_residual-in_err-put_keys.ensures.1 in
    let at0 = left_behind _ _ _ _ _ _ _ _ _ (all_left _ _) refl c.put_head_lines.ensures c.in_ok-put_head_lines.was in
    let at1 = left_behind _ _ _ _ _ _ _ _ _ at0 refl c.put_lines.ensures c.in_ok-put_lines.was in
    rw p.1 (left_broken _ _ _ _ _ _ _ _ _ at1 refl c.put_keys.ensures c.in_err-put_keys.was)

pub returns : goal.returns
returns g c =
    let at0 = left_behind _ _ _ _ _ _ _ _ _ (all_left _ _) refl c.put_head_lines.ensures c.in_ok-put_head_lines.was in
    let at1 = left_behind _ _ _ _ _ _ _ _ _ at0 refl c.put_lines.ensures c.in_ok-put_lines.was in
    let at2 = left_behind _ _ _ _ _ _ _ _ _ at1 refl c.put_keys.ensures c.in_ok-put_keys.was in
    left_last _ _ _ _ _ _ at2 c.put_more.ensures
