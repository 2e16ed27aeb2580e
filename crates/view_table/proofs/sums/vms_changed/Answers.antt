use Rattle.std.proofs.Common.{◌∙◌, sym, inl, inr, arith}
use Rattle.view_table.specs.Sums.{vm_changes}
use Rattle.view_table.proofs.GroupLemmas.{sum_none, sum_step}
use Rattle.view_table.proofs.sums.vms_changed.Goals as goal
use Rattle.view_table.proofs.sums.vms_changed.Goals.{then-vm_changes, else-vm_changes}

pub loop-vcpu-init : goal.loop-vcpu-init
loop-vcpu-init c = record { value = sym (sum_none _ _); small = omega arith }

pub loop-vcpu-preserved : goal.loop-vcpu-preserved
loop-vcpu-preserved c = record {
  value = sum_step (vm_changes c.args.matter c.args.old.now c.args.new.now) (λ v. 1) c.loop-vcpu.vcpu c.loop-vcpu.count c.if-vm_changes.count c.loop-vcpu.invariant.value
      (elim c.if-vm_changes.branch [
        | then-vm_changes w ↦ inl (sym c.vm_changes.ensures ∙ w.if-vm_changes.true, w.count-is)
        | else-vm_changes w ↦ inr (sym c.vm_changes.ensures ∙ w.if-vm_changes.false, w.count-is)
      ]);
  small = elim c.if-vm_changes.branch [ then-vm_changes w ↦ omega arith | else-vm_changes w ↦ omega arith ];
}
