use Rattle.std.proofs.lemmas.Result.{err_from_is_err_and}
use Rattle.tab_words.proofs.NumberedTextLemmas.{all_written, next_broken, next_written, none_written}
use Rattle.view_svg.specs.Drawings.{palette_view}
use Rattle.view_svg.specs.Lanes.{vcpu_paths}
use Rattle.view_svg.proofs.lane.put_all_paths.Goals as goal

pub loop-v-init : goal.loop-v-init
loop-v-init g c = none_written _ _ (tt {0})

pub returns-in_err-put_paths : goal.returns-in_err-put_paths
returns-in_err-put_paths g c =
    let p = err_from_is_err_and c.from_residual.result c.from_residual.ensures.1 in
    rw p.1 (next_broken _ _ _ (vcpu_paths c.args.band.now (palette_view c.args.palette.now) c.args.bars.now) c.loop-v.v _ (tt {0}) _
    c.in_err-put_paths.field-0.0 c.loop-v-test.true c.loop-v.invariant c.put_paths.ensures
    c.in_err-put_paths.was)

pub loop-v-preserved : goal.loop-v-preserved
loop-v-preserved g c = next_written _ _ _ (vcpu_paths c.args.band.now (palette_view c.args.palette.now) c.args.bars.now) c.loop-v.v
    (tt {0}) c.in_ok-put_paths.field-0 _ c.loop-v.invariant c.put_paths.ensures c.in_ok-put_paths.was

pub returns : goal.returns
returns g c = all_written _ _ (vcpu_paths c.args.band.now (palette_view c.args.palette.now) c.args.bars.now) c.loop-v.v _ (tt {0})
    c.loop-v.auto.v-end c.loop-v-test.false c.loop-v.invariant
