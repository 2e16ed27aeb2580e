use Rattle.std.proofs.Common.{◌∙◌, arith, length-append, sym}
use Rattle.view_lanes.specs.declared.frame.Bar.{Bar}
use Rattle.view_svg.proofs.JoinedLemmas.{no_seam, seam_found}
use Rattle.view_svg.proofs.joined.seams_of.Goals as goal
use Rattle.view_svg.proofs.joined.seams_of.Goals.{then-is_one_box, else-is_one_box}

pub loop-next-preserved : goal.loop-next-preserved
loop-next-preserved c = elim c.if-is_one_box.branch [
  | then-is_one_box w ↦
      let joins = sym c.is_one_box.ensures ∙ w.if-is_one_box.true in
      rw (w.seams-is, w.push.ensures.items) record {
        whole = seam_found c.args.frame.now _ _ _ _ _ _ c.loop-next-test.true joins c.loop-next.invariant.whole;
        few = omega (arith, length-append {A = Bar}, c.loop-next.invariant.few);
      }
  | else-is_one_box w ↦
      let parted = sym c.is_one_box.ensures ∙ w.if-is_one_box.false in
      rw w.seams-is record {
        whole = no_seam c.args.frame.now _ _ _ _ _ _ c.loop-next-test.true parted c.loop-next.invariant.whole;
        few = omega (arith, c.loop-next.invariant.few);
      }
]
