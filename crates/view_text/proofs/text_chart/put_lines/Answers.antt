use Rattle.std.proofs.lemmas.Result.{err_from_is_err_and}
use Rattle.tab_words.proofs.NumberedTextLemmas.{all_written, next_broken, next_written, none_written}
use Rattle.view_text.specs.TextCharts.{lane_line_at}
use Rattle.view_text.proofs.text_chart.put_lines.Goals as goal

pub loop-i-init : goal.loop-i-init
loop-i-init g c = none_written _ _ (tt {0})

pub returns-in_err-put_line_at : goal.returns-in_err-put_line_at
returns-in_err-put_line_at g c =
    let p = err_from_is_err_and c.from_residual.result c.from_residual.ensures.1 in
    rw p.1 (next_broken _ _ _ (lane_line_at c.args.frame.now c.args.columns c.args.vcpus c.args.first c.args.lanes.now) c.loop-i.i _ (tt {0}) _
    c.in_err-put_line_at.field-0.0 c.loop-i-test.true c.loop-i.invariant c.put_line_at.ensures
    c.in_err-put_line_at.was)

pub loop-i-preserved : goal.loop-i-preserved
loop-i-preserved g c = next_written _ _ _ (lane_line_at c.args.frame.now c.args.columns c.args.vcpus c.args.first c.args.lanes.now) c.loop-i.i
    (tt {0}) c.in_ok-put_line_at.field-0 _ c.loop-i.invariant c.put_line_at.ensures c.in_ok-put_line_at.was

pub returns : goal.returns
returns g c = all_written _ _ (lane_line_at c.args.frame.now c.args.columns c.args.vcpus c.args.first c.args.lanes.now) c.loop-i.i _ (tt {0})
    c.loop-i.auto.i-end c.loop-i-test.false c.loop-i.invariant
