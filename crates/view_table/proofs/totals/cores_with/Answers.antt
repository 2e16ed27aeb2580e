use Rattle.std.proofs.Common.{◌∙◌, sym, inl, inr, arith}
use Rattle.view_table.specs.Loads.{has_slot_on}
use Rattle.view_table.proofs.GroupLemmas.{sum_none, sum_step}
use Rattle.view_table.proofs.totals.cores_with.Goals as goal
use Rattle.view_table.proofs.totals.cores_with.Goals.{then-has_slot_on, else-has_slot_on}

pub loop-core-init : goal.loop-core-init
loop-core-init c = record { value = sym (sum_none _ _); small = omega arith }

pub loop-core-preserved : goal.loop-core-preserved
loop-core-preserved c = record {
  value = sum_step (has_slot_on c.args.view.now.slots.items c.args.vcpu) (λ v. 1) c.loop-core.core c.loop-core.count c.if-has_slot_on.count c.loop-core.invariant.value
      (elim c.if-has_slot_on.branch [
        | then-has_slot_on w ↦ inl (sym c.has_slot_on.ensures ∙ w.if-has_slot_on.true, w.count-is)
        | else-has_slot_on w ↦ inr (sym c.has_slot_on.ensures ∙ w.if-has_slot_on.false, w.count-is)
      ]);
  small = elim c.if-has_slot_on.branch [ then-has_slot_on w ↦ omega arith | else-has_slot_on w ↦ omega arith ];
}
