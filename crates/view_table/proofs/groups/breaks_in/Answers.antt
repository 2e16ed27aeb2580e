use Rattle.std.proofs.Common.{◌∙◌, sym, inl, inr}
use Rattle.view_table.specs.Groups.{vm_breaks}
use Rattle.view_table.proofs.GroupLemmas.{any_below-zero, any_step}
use Rattle.view_table.proofs.groups.breaks_in.Goals as goal
use Rattle.view_table.proofs.groups.breaks_in.Goals.{then-breaks_there, else-breaks_there}

pub loop-vcpu-init : goal.loop-vcpu-init
loop-vcpu-init c = sym (any_below-zero _)

pub loop-vcpu-preserved : goal.loop-vcpu-preserved
loop-vcpu-preserved c = any_step (vm_breaks c.args.tick_ns c.args.vcpus.now c.args.view.now.names.items c.args.vm.now c.args.view.now.slots.items) c.loop-vcpu.vcpu c.loop-vcpu.found c.if-breaks_there.found c.loop-vcpu.invariant
    (elim c.if-breaks_there.branch [
      | then-breaks_there w ↦ inl (sym c.breaks_there.ensures ∙ w.if-breaks_there.true, w.found-is)
      | else-breaks_there w ↦ inr (sym c.breaks_there.ensures ∙ w.if-breaks_there.false, w.found-is)
    ])
