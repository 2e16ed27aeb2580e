use Rattle.std.proofs.Common.{◌∙◌, sym, inl, inr}
use Rattle.view_table.specs.Loads.{has_slot_on}
use Rattle.view_table.proofs.GroupLemmas.{any_below-zero, any_step}
use Rattle.view_table.proofs.data.stands_below.Goals as goal
use Rattle.view_table.proofs.data.stands_below.Goals.{then-stands_on, else-stands_on}

pub loop-core-init : goal.loop-core-init
loop-core-init c = sym (any_below-zero _)

pub loop-core-preserved : goal.loop-core-preserved
loop-core-preserved c = any_step (has_slot_on c.args.view.now.slots.items c.args.vcpu) c.loop-core.core c.loop-core.found c.if-stands_on.found c.loop-core.invariant
    (elim c.if-stands_on.branch [
      | then-stands_on w ↦ inl (sym c.stands_on.ensures ∙ w.if-stands_on.true, w.found-is)
      | else-stands_on w ↦ inr (sym c.stands_on.ensures ∙ w.if-stands_on.false, w.found-is)
    ])
