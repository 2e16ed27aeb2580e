use Rattle.std.proofs.Common.{refl}
use Rattle.std.proofs.lemmas.Result.{err_from_is_err_and}
use Rattle.tab_io.proofs.SinkLemmas.{all_left, left_behind, left_broken, left_last}
use Rattle.view_text.proofs.text_chart.put_line_of.Goals as goal

pub returns-in_err-put_line_begin : goal.returns-in_err-put_line_begin
returns-in_err-put_line_begin g c =
    let p = err_from_is_err_and c.from_residual.result c.from_residual.ensures.1 in
    rw p.1 (left_broken _ _ _ _ _ _ _ _ _ (all_left _ _) refl c.put_line_begin.ensures c.in_err-put_line_begin.was)

pub returns-in_err-put_cells : goal.returns-in_err-put_cells
returns-in_err-put_cells g c =
    let p = err_from_is_err_and c.from_residual-in_err-put_cells.result c.from_residual-in_err-put_cells.ensures.1 in
    let at0 = left_behind _ _ _ _ _ _ _ _ _ (all_left _ _) refl c.put_line_begin.ensures c.in_ok-put_line_begin.was in
    rw p.1 (left_broken _ _ _ _ _ _ _ _ _ at0 refl c.put_cells.ensures c.in_err-put_cells.was)

pub returns : goal.returns
returns g c =
    let at0 = left_behind _ _ _ _ _ _ _ _ _ (all_left _ _) refl c.put_line_begin.ensures c.in_ok-put_line_begin.was in
    let at1 = left_behind _ _ _ _ _ _ _ _ _ at0 refl c.put_cells.ensures c.in_ok-put_cells.was in
    left_last _ _ _ _ _ _ at1 c.put_line_end.ensures
