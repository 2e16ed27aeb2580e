use Rattle.std.proofs.Common.{Option, ◌∙◌, ap, inl, inr, sym}
use Rattle.tab_core.specs.declared.reservation.Reservation.{Reservation}
use Rattle.view_table.specs.Groups.{lesser}
use Rattle.view_table.proofs.GroupLemmas.{least_in-zero, least_step}
use Rattle.view_table.proofs.groups.least_in.Goals as goal
use Rattle.view_table.proofs.groups.least_in.Goals.{then-is_of, else-is_of}

pub loop-vcpu-init : goal.loop-vcpu-init
loop-vcpu-init c = sym (least_in-zero _ _ _)

pub loop-vcpu-preserved : goal.loop-vcpu-preserved
loop-vcpu-preserved c = least_step c.args.vcpus.now c.args.view.now.names.items c.args.vm.now c.loop-vcpu.vcpu
    c.loop-vcpu.least c.if-is_of.least c.loop-vcpu.invariant
    (elim c.if-is_of.branch [
      | then-is_of w ↦ inl (
        sym c.is_of.ensures ∙ w.if-is_of.true,
        w.least-is ∙ (w.lesser-least.ensures ∙ ap (λ (r : Option Reservation). lesser c.loop-vcpu.least r) w.asked_at.ensures),
      )
      | else-is_of w ↦ inr (sym c.is_of.ensures ∙ w.if-is_of.false, w.least-is)
    ])
