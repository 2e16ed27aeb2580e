use Rattle.std.proofs.lemmas.Result.{err_from_is_err_and}
use Rattle.tab_words.proofs.NumberedTextLemmas.{all_written, next_broken, next_written, none_written}
use Rattle.view_svg.proofs.ColumnLemmas.{start_below}
use Rattle.view_svg.specs.Drawings.{palette_view}
use Rattle.view_svg.specs.Columns.{column_path}
use Rattle.view_svg.proofs.columns.put_columns.Goals as goal

pub loop-v-init : goal.loop-v-init
loop-v-init g c = record {
  wrote = none_written _ _ (tt {0});
  below = start_below c.args.band.now.frame c.args.bars.now;
}

pub returns-in_err-put_column : goal.returns-in_err-put_column
returns-in_err-put_column g c =
    let p = err_from_is_err_and c.from_residual.result c.from_residual.ensures.1 in
    rw p.1 (next_broken _ _ _ (column_path c.args.band.now (palette_view c.args.palette.now) c.args.bars.now) c.loop-v.v _ (tt {0}) _
    c.in_err-put_column.field-0.0 c.loop-v-test.true c.loop-v.invariant.wrote c.put_column.ensures.wrote
    c.in_err-put_column.was)

pub loop-v-preserved : goal.loop-v-preserved
loop-v-preserved g c = record {
  wrote = next_written _ _ _ (column_path c.args.band.now (palette_view c.args.palette.now) c.args.bars.now) c.loop-v.v (tt {0}) c.in_ok-put_column.field-0 _
      c.loop-v.invariant.wrote c.put_column.ensures.wrote c.in_ok-put_column.was;
  below = c.put_column.ensures.below;
}

pub returns : goal.returns
returns g c = all_written _ _ (column_path c.args.band.now (palette_view c.args.palette.now) c.args.bars.now) c.loop-v.v _ (tt {0})
    c.loop-v.auto.v-end c.loop-v-test.false c.loop-v.invariant.wrote
