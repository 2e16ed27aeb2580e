use Rattle.std.proofs.Common.{◌<◌, ◌≤◌, length, subst, sym, ◌∙◌, arith, flat_map}
use Rattle.std.proofs.lemmas.Option.{get_or_from_slice_get}
use Rattle.std.proofs.lemmas.Result.{err_from_is_err_and}
use Rattle.vcpu_names.specs.Names.{names_of}
use Rattle.step_machine.specs.Traces.{IsOfCourse}
use Rattle.stint_text.proofs.GatheredLemmas.{gathered_last, next_gathered, next_torn}
use Rattle.tab_io.proofs.SinkLemmas.{all_left}
use Rattle.replay_text.specs.ReplayText.{made_line}
use Rattle.replay_text.proofs.write.put_all_made.Goals as goal

pub loop-place-init : goal.loop-place-init
loop-place-init g c = rw c.of-lines.ensures.none (record { names = c.of-lines.ensures.names; left = all_left _ _ })

pub put_made-requires : goal.put_made-requires
put_made-requires g c =
    let all = c.args.trace.now.made in
    let one = c.made-made.result in
    let low : c.loop-place.place < length all = omega (arith, c.count-place-end.ensures, c.loop-place-test.true) in
    subst (IsOfCourse c.args.course.now) (get_or_from_slice_get all c.loop-place.place one one c.made-made.ensures)
    (c.requires c.loop-place.place one low)

pub returns-in_err-put_made : goal.returns-in_err-put_made
returns-in_err-put_made g c =
    let p = err_from_is_err_and c.from_residual.result c.from_residual.ensures.1 in
    let l = c.loop-place in
    let all = c.args.trace.now.made in
    let one = c.made-made.result in
    let line = made_line (names_of c.args.vcpus.now) c.args.course.now in
    let came = rw l.invariant.names at c.put_made.ensures.bytes in
    let low : l.place < length all = omega (arith, c.count-place-end.ensures, c.loop-place-test.true) in
    rw p.1 (next_torn _ _ _ line all l.place one (flat_map line all) _ _ _ _ low
    (sym (get_or_from_slice_get all l.place one one c.made-made.ensures)) l.invariant.left came
    c.in_err-put_made.was)

pub loop-place-preserved : goal.loop-place-preserved
loop-place-preserved g c =
    let l = c.loop-place in
    let all = c.args.trace.now.made in
    let one = c.made-made.result in
    let line = made_line (names_of c.args.vcpus.now) c.args.course.now in
    let came = rw l.invariant.names at c.put_made.ensures.bytes in
    let low : l.place < length all = omega (arith, c.count-place-end.ensures, c.loop-place-test.true) in
    record {
      names = c.put_made.ensures.names ∙ l.invariant.names;
      left = next_gathered _ _ _ line all l.place one (flat_map line all) _ _ _ _ low
          (sym (get_or_from_slice_get all l.place one one c.made-made.ensures)) l.invariant.left came
          c.in_ok-put_made.was;
    }

pub returns : goal.returns
returns g c =
    let l = c.loop-place in
    let all = c.args.trace.now.made in
    let line = made_line (names_of c.args.vcpus.now) c.args.course.now in
    let past : length all ≤ l.place =
    omega (arith, c.count-place-end.ensures, c.loop-place-test.false, c.loop-place.auto.place-end) in
    gathered_last _ _ _ line all l.place (flat_map line all) _ _ past l.invariant.left c.write.ensures
