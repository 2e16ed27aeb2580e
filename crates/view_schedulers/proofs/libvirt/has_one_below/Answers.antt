use Rattle.std.proofs.Common.{◌∙◌, sym, inl, inr}
use Rattle.view_schedulers.proofs.LineLemmas.{has_one_below-zero, one_more}
use Rattle.view_schedulers.proofs.libvirt.has_one_below.Goals as goal
use Rattle.view_schedulers.proofs.libvirt.has_one_below.Goals.{then-is_guests, else-is_guests}

pub loop-vcpu-init : goal.loop-vcpu-init
loop-vcpu-init c = sym (has_one_below-zero _ _)

pub loop-vcpu-preserved : goal.loop-vcpu-preserved
loop-vcpu-preserved c = one_more c.args.names.now c.args.guest.now c.loop-vcpu.vcpu c.loop-vcpu.found
    c.if-is_guests.found c.loop-vcpu.invariant
    (elim c.if-is_guests.branch [
      | then-is_guests w ↦ inl (sym c.is_guests.ensures ∙ w.if-is_guests.true, w.found-is)
      | else-is_guests w ↦ inr (sym c.is_guests.ensures ∙ w.if-is_guests.false, w.found-is)
    ])
