use Rattle.std.proofs.Common.{◌∙◌, sym, inl, inr, ap, ℕ, max}
use Rattle.view_table.specs.Waits.{wait_of}
use Rattle.view_table.proofs.GroupLemmas.{most_in-zero, most_step}
use Rattle.view_table.proofs.groups.wait_in.Goals as goal
use Rattle.view_table.proofs.groups.wait_in.Goals.{then-is_of, else-is_of}

pub loop-vcpu-init : goal.loop-vcpu-init
loop-vcpu-init c = sym (most_in-zero _ _ _)

pub loop-vcpu-preserved : goal.loop-vcpu-preserved
loop-vcpu-preserved c = most_step (wait_of c.args.view.now.slots.items) c.args.view.now.names.items c.args.vm.now c.loop-vcpu.vcpu c.loop-vcpu.wait c.if-is_of.wait c.loop-vcpu.invariant
    (elim c.if-is_of.branch [
      | then-is_of w ↦ inl (sym c.is_of.ensures ∙ w.if-is_of.true, w.wait-is ∙ (w.max-wait.ensures ∙ ap (λ (s : ℕ). max c.loop-vcpu.wait s) w.figure_of.ensures))
      | else-is_of w ↦ inr (sym c.is_of.ensures ∙ w.if-is_of.false, w.wait-is)
    ])
