use Rattle.std.proofs.Common.{◌∙◌, sym, inl, inr, arith}
use Rattle.view_table.proofs.GroupLemmas.{end_step, vm_end-zero}
use Rattle.view_table.proofs.groups.vm_of.Goals as goal
use Rattle.view_table.proofs.groups.vm_of.Goals.{then-is_last_part, else-is_last_part}

pub loop-k-init : goal.loop-k-init
loop-k-init c = record { end = sym (vm_end-zero _); within = omega arith }

pub loop-k-preserved : goal.loop-k-preserved
loop-k-preserved c = record {
  end = end_step c.args.name.now c.loop-k.k c.loop-k.end c.if-is_last_part.end c.loop-k.invariant.end
      (elim c.if-is_last_part.branch [
        | then-is_last_part w ↦ inl (sym c.is_last_part.ensures ∙ w.if-is_last_part.true, w.end-is)
        | else-is_last_part w ↦ inr (sym c.is_last_part.ensures ∙ w.if-is_last_part.false, w.end-is)
      ]);
  within = elim c.if-is_last_part.branch [
    | then-is_last_part w ↦ omega arith
    | else-is_last_part w ↦ omega arith
  ];
}
