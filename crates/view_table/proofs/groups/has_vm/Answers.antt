use Rattle.std.proofs.Common.{◌∙◌, sym, inl, inr}
use Rattle.view_table.specs.Groups.{is_of_vm}
use Rattle.view_table.proofs.GroupLemmas.{any_below-zero, any_step}
use Rattle.view_table.proofs.groups.has_vm.Goals as goal
use Rattle.view_table.proofs.groups.has_vm.Goals.{then-is_of, else-is_of}

pub loop-vcpu-init : goal.loop-vcpu-init
loop-vcpu-init c = sym (any_below-zero _)

pub loop-vcpu-preserved : goal.loop-vcpu-preserved
loop-vcpu-preserved c = any_step (is_of_vm c.args.view.now.names.items c.args.vm.now) c.loop-vcpu.vcpu c.loop-vcpu.found c.if-is_of.found c.loop-vcpu.invariant
    (elim c.if-is_of.branch [
      | then-is_of w ↦ inl (sym c.is_of.ensures ∙ w.if-is_of.true, w.found-is)
      | else-is_of w ↦ inr (sym c.is_of.ensures ∙ w.if-is_of.false, w.found-is)
    ])
