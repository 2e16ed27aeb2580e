use Rattle.std.proofs.Common.{◌∙◌, arith, length-append, sym}
use Rattle.view_lanes.specs.declared.frame.Bar.{Bar}
use Rattle.view_svg.proofs.JoinedLemmas.{box_ends, box_grows}
use Rattle.view_svg.proofs.joined.boxes_of.Goals as goal
use Rattle.view_svg.proofs.joined.boxes_of.Goals.{then-is_one_box, else-is_one_box}

pub loop-next-preserved : goal.loop-next-preserved
loop-next-preserved c = elim c.if-is_one_box.branch [
  | then-is_one_box w ↦
      let joins = sym c.is_one_box.ensures ∙ w.if-is_one_box.true in
      rw (w.boxes-is, w.last-is) record {
        whole = box_grows c.args.frame.now _ _ _ _ _ _ c.loop-next-test.true joins c.loop-next.invariant.whole;
        few = omega (arith, c.loop-next.invariant.few);
      }
  | else-is_one_box w ↦
      let parted = sym c.is_one_box.ensures ∙ w.if-is_one_box.false in
      rw (w.boxes-is, w.last-is, w.push.ensures.items) record {
        whole = box_ends c.args.frame.now _ _ _ _ _ _ c.loop-next-test.true parted c.loop-next.invariant.whole;
        few = omega (arith, length-append {A = Bar}, c.loop-next.invariant.few);
      }
]
