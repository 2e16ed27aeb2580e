use Rattle.std.proofs.lemmas.Result.{err_from_is_err_and}
use Rattle.tab_words.proofs.PieceLemmas.{pieces_last, pieces_broken}
use Rattle.view_cells.specs.CellTexts.{cell_text}
use Rattle.view_cells.proofs.cells.put_cells.Goals as goal

pub returns-in_err-put_cell : goal.returns-in_err-put_cell
returns-in_err-put_cell g c =
    let p = err_from_is_err_and c.from_residual.result c.from_residual.ensures.1 in
    rw p.1 (pieces_broken _ _ _ cell_text c.args.cells.now c.loop-cell.cell-index _ (tt {0}) _
    c.in_err-put_cell.field-0.0 c.loop-cell-test.true c.loop-cell.invariant c.put_cell.ensures
    c.in_err-put_cell.was)

pub loop-cell-preserved : goal.loop-cell-preserved
loop-cell-preserved g c = pieces_last _ _ _ cell_text c.args.cells.now c.loop-cell.cell-index _ (tt {0})
    c.in_ok-put_cell.field-0 _ c.loop-cell-test.true c.loop-cell.invariant c.put_cell.ensures
    c.in_ok-put_cell.was
