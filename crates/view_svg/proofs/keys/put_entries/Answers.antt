use Rattle.std.proofs.Common.{arith, refl, ◌∙◌, ◌<◌}
use Rattle.std.proofs.lemmas.Grind.{common_steps}
use Rattle.std.proofs.lemmas.Result.{err_from_is_err_and}
use Rattle.tab_words.proofs.NumberedTextLemmas.{all_written, next_broken, next_written, none_written}
use Rattle.view_svg.proofs.KeyLemmas.{count_more}
use Rattle.view_svg.specs.Drawings.{palette_view}
use Rattle.view_svg.specs.Keys.{has_bar, key_at}
use Rattle.view_svg.proofs.keys.put_entries.Goals as goal

pub loop-v-init : goal.loop-v-init
loop-v-init g c = record {
  wrote = none_written _ _ (tt {0});
  place = refl;
  few = omega arith;
}

pub returns-in_err-put_entry : goal.returns-in_err-put_entry
returns-in_err-put_entry g c =
    let p = err_from_is_err_and c.from_residual.result c.from_residual.ensures.1 in
    let low : c.loop-v.v < 256 = omega (arith, c.loop-v-test.true, c.args.palette.now.few) in
    let met = c.has-held.ensures ∙ c.requires.holders c.loop-v.v low in
    rw p.1 (next_broken _ _ _ (key_at c.args.band.now (palette_view c.args.palette.now) c.args.bars.now c.args.listed) c.loop-v.v _ (tt {0}) _
    c.in_err-put_entry.field-0.0 c.loop-v-test.true c.loop-v.invariant.wrote
    (rw (met, c.loop-v.invariant.place) at c.put_entry.ensures) c.in_err-put_entry.was)

pub loop-v-preserved : goal.loop-v-preserved
loop-v-preserved g c =
    let low : c.loop-v.v < 256 = omega (arith, c.loop-v-test.true, c.args.palette.now.few) in
    let met = c.has-held.ensures ∙ c.requires.holders c.loop-v.v low in
    record {
      wrote = next_written _ _ _ (key_at c.args.band.now (palette_view c.args.palette.now) c.args.bars.now c.args.listed) c.loop-v.v (tt {0}) c.in_ok-put_entry.field-0 _ c.loop-v.invariant.wrote
          (rw (met, c.loop-v.invariant.place) at c.put_entry.ensures) c.in_ok-put_entry.was;
      place = c.next_place-place.ensures ∙ count_more (has_bar c.args.bars.now) c.loop-v.v _ _ met c.loop-v.invariant.place;
      few = grind (arith, common_steps, c.next_place-place.ensures, c.loop-v.invariant.few);
    }

pub returns : goal.returns
returns g c = all_written _ _ (key_at c.args.band.now (palette_view c.args.palette.now) c.args.bars.now c.args.listed) c.loop-v.v _ (tt {0})
    c.loop-v.auto.v-end c.loop-v-test.false c.loop-v.invariant.wrote
