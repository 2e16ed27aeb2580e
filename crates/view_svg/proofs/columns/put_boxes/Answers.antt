use Rattle.std.proofs.lemmas.Result.{err_from_is_err_and}
use Rattle.tab_words.proofs.NumberedTextLemmas.{all_written, next_broken, next_written, none_written}
use Rattle.view_svg.specs.Columns.{column_box}
use Rattle.view_svg.proofs.columns.put_boxes.Goals as goal

pub loop-j-init : goal.loop-j-init
loop-j-init g c = none_written _ _ (tt {0})

pub returns-in_err-put_column_box : goal.returns-in_err-put_column_box
returns-in_err-put_column_box g c =
    let p = err_from_is_err_and c.from_residual.result c.from_residual.ensures.1 in
    rw p.1 (next_broken _ _ _ (column_box c.args.band.now c.args.bars.now c.args.v) c.loop-j.j _ (tt {0}) _
    c.in_err-put_column_box.field-0.0 c.loop-j-test.true c.loop-j.invariant c.put_column_box.ensures
    c.in_err-put_column_box.was)

pub loop-j-preserved : goal.loop-j-preserved
loop-j-preserved g c = next_written _ _ _ (column_box c.args.band.now c.args.bars.now c.args.v) c.loop-j.j
    (tt {0}) c.in_ok-put_column_box.field-0 _ c.loop-j.invariant c.put_column_box.ensures c.in_ok-put_column_box.was

pub returns : goal.returns
returns g c = all_written _ _ (column_box c.args.band.now c.args.bars.now c.args.v) c.loop-j.j _ (tt {0})
    c.loop-j.auto.j-end c.loop-j-test.false c.loop-j.invariant
