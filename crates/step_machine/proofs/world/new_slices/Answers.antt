use Rattle.std.proofs.Common.{◌+◌, sym, subst, arith}
use Rattle.step_machine.specs.Inside.Worlds.{HaveFirstSlices}
use Rattle.step_machine.proofs.WorldLemmas.{slices_none, slices_more}
use Rattle.step_machine.proofs.world.new_slices.Goals as goal

pub loop-core-init : goal.loop-core-init
loop-core-init c = subst (HaveFirstSlices c.args.course.now 0) (sym c.new-slices.ensures.items)
    (slices_none c.args.course.now)

pub loop-core-preserved : goal.loop-core-preserved
loop-core-preserved c =
    subst (HaveFirstSlices c.args.course.now (c.loop-core.core + 1)) (sym c.in_ok-push.ensures.items)
    (slices_more c.args.course.now c.loop-core.core c.loop-core.slices.items c.in_ok-make_with.field-0 c.loop-core.invariant
    c.in_ok-make_with.ensures)

pub returns : goal.returns
returns c =
    let f = c.loop-core.invariant in record {
      count = omega (arith, f.count, c.cores-core-end.ensures.cores, c.loop-core-test.false, c.loop-core.auto.core-end);
      each = f.each;
    }
