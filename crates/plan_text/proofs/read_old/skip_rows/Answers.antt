use Rattle.std.proofs.Common.{IsTrue}
use Rattle.plan_text.proofs.OldReadingLemmas.{bad_behind_row_line, rows_back}
use Rattle.plan_text.proofs.read_old.skip_rows.Goals as goal

pub loop-preserved : goal.loop-preserved
loop-preserved c =
    let yes : IsTrue c.skip_row_line.result = c.loop-test.true in
    let row = c.skip_row_line.ensures.yes yes in
    record {
      text = λ rows. c.loop.invariant.text (rows_back row.0 _ _ row.1 row.2 rows);
      behind = λ bad is. c.loop.invariant.behind bad (bad_behind_row_line _ _ bad row.0 _ _ row.1 row.2 row.3 is);
    }
