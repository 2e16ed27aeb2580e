use Rattle.std.proofs.Common.{◌∙◌, sym, inl, inr, arith}
use Rattle.view_schedulers.proofs.LineLemmas.{dot_below-zero, dot_step}
use Rattle.view_schedulers.proofs.guest.dot_of.Goals as goal
use Rattle.view_schedulers.proofs.guest.dot_of.Goals.{then-is_dot, else-is_dot}

pub loop-k-init : goal.loop-k-init
loop-k-init c = record { dot = sym (dot_below-zero _); within = omega arith }

pub loop-k-preserved : goal.loop-k-preserved
loop-k-preserved c = record {
  dot = dot_step c.args.name.now c.loop-k.k c.loop-k.dot c.if-is_dot.dot c.loop-k.invariant.dot
      (elim c.if-is_dot.branch [
        | then-is_dot w ↦ inl (sym c.is_dot.ensures ∙ w.if-is_dot.true, w.dot-is)
        | else-is_dot w ↦ inr (sym c.is_dot.ensures ∙ w.if-is_dot.false, w.dot-is)
      ]);
  within = elim c.if-is_dot.branch [
    | then-is_dot w ↦ omega arith
    | else-is_dot w ↦ omega arith
  ];
}
