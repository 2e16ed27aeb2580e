use Rattle.std.proofs.Common.{arith, add-one, refl, ◌≡◌, ◌+◌, ◌<◌, ◌||◌, ◌&&◌}
use Rattle.std.proofs.lemmas.Bool.Decides.{nat_tests}
use Rattle.std.proofs.lemmas.Grind.{common_steps}
use Rattle.std.specs.Prelude.{◌==◌, slice_index}
use Rattle.view_lanes.proofs.colours.is_taken.Goals.{then-taken, else-taken+then-colours-u, else-taken+else-colours-u}
use Rattle.view_lanes.specs.Colours.{meets, taken_below}
use Rattle.view_lanes.proofs.colours.is_taken.Goals as goal

pub loop-u-preserved : goal.loop-u-preserved
loop-u-preserved c on are =
    let so_far = c.loop-u.invariant on are in
    let low : c.loop-u.u < 256 = omega (arith, c.loop-u-test.true, c.v.invariant, c.v.view_is) in
    let here = are c.loop-u.u low in
    let more : taken_below on c.args.colours.now c.args.v c.args.k (c.loop-u.u + 1)
    ≡ (taken_below on c.args.colours.now c.args.v c.args.k c.loop-u.u
    || ((slice_index c.args.colours.now c.loop-u.u == c.args.k) && meets on c.loop-u.u c.args.v)) =
    rw (add-one c.loop-u.u) refl in
    elim c.if-taken.branch [
      | then-taken w ↦ grind (arith, common_steps, nat_tests, so_far, more, w.if-taken.true, w.taken-is)
      | else-taken+then-colours-u w ↦
          grind (
            arith,
            common_steps,
            nat_tests,
            so_far,
            more,
            here,
            w.if-taken.false,
            w.if-colours-u.true,
            w.has.ensures,
            w.taken-is,
          )
      | else-taken+else-colours-u w ↦
          grind (arith, common_steps, nat_tests, so_far, more, w.if-taken.false, w.if-colours-u.false, w.taken-is)
    ]
