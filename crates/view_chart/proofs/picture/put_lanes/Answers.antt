use Rattle.std.proofs.lemmas.Result.{err_from_is_err_and}
use Rattle.tab_words.proofs.NumberedTextLemmas.{all_written, next_broken, next_written, none_written}
use Rattle.view_svg.specs.Drawings.{palette_view, vcpus_view}
use Rattle.view_chart.specs.Charts.{lane_at}
use Rattle.view_chart.proofs.picture.put_lanes.Goals as goal

pub loop-i-init : goal.loop-i-init
loop-i-init g c = none_written _ _ (tt {0})

pub returns-in_err-put_lane_at : goal.returns-in_err-put_lane_at
returns-in_err-put_lane_at g c =
    let p = err_from_is_err_and c.from_residual.result c.from_residual.ensures.1 in
    rw p.1 (next_broken _ _ _ (lane_at c.args.frame.now c.args.first (vcpus_view c.args.vcpus.now) (palette_view c.args.palette.now) c.args.lanes.now) c.loop-i.i _ (tt {0}) _
    c.in_err-put_lane_at.field-0.0 c.loop-i-test.true c.loop-i.invariant c.put_lane_at.ensures
    c.in_err-put_lane_at.was)

pub loop-i-preserved : goal.loop-i-preserved
loop-i-preserved g c = next_written _ _ _ (lane_at c.args.frame.now c.args.first (vcpus_view c.args.vcpus.now) (palette_view c.args.palette.now) c.args.lanes.now) c.loop-i.i
    (tt {0}) c.in_ok-put_lane_at.field-0 _ c.loop-i.invariant c.put_lane_at.ensures c.in_ok-put_lane_at.was

pub returns : goal.returns
returns g c = all_written _ _ (lane_at c.args.frame.now c.args.first (vcpus_view c.args.vcpus.now) (palette_view c.args.palette.now) c.args.lanes.now) c.loop-i.i _ (tt {0})
    c.loop-i.auto.i-end c.loop-i-test.false c.loop-i.invariant
