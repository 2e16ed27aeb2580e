use Rattle.std.proofs.Common.{◌∙◌, sym, inl, inr}
use Rattle.view_table.specs.Groups.{vm_stands}
use Rattle.view_table.proofs.GroupLemmas.{any_below-zero, any_step}
use Rattle.view_table.proofs.groups.stands_in.Goals as goal
use Rattle.view_table.proofs.groups.stands_in.Goals.{then-stands_there, else-stands_there}

pub loop-vcpu-init : goal.loop-vcpu-init
loop-vcpu-init c = sym (any_below-zero _)

pub loop-vcpu-preserved : goal.loop-vcpu-preserved
loop-vcpu-preserved c = any_step (vm_stands c.args.view.now.names.items c.args.vm.now c.args.view.now.slots.items c.args.core) c.loop-vcpu.vcpu c.loop-vcpu.found c.if-stands_there.found c.loop-vcpu.invariant
    (elim c.if-stands_there.branch [
      | then-stands_there w ↦ inl (sym c.stands_there.ensures ∙ w.if-stands_there.true, w.found-is)
      | else-stands_there w ↦ inr (sym c.stands_there.ensures ∙ w.if-stands_there.false, w.found-is)
    ])
