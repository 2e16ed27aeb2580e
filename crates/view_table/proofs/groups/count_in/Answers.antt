use Rattle.std.proofs.Common.{◌∙◌, sym, inl, inr, arith}
use Rattle.view_table.specs.Groups.{is_of_vm}
use Rattle.view_table.proofs.GroupLemmas.{sum_none, sum_step}
use Rattle.view_table.proofs.groups.count_in.Goals as goal
use Rattle.view_table.proofs.groups.count_in.Goals.{then-is_of, else-is_of}

pub loop-vcpu-init : goal.loop-vcpu-init
loop-vcpu-init c = record { value = sym (sum_none _ _); small = omega arith }

pub loop-vcpu-preserved : goal.loop-vcpu-preserved
loop-vcpu-preserved c = record {
  value = sum_step (is_of_vm c.args.view.now.names.items c.args.vm.now) (λ v. 1) c.loop-vcpu.vcpu c.loop-vcpu.count c.if-is_of.count c.loop-vcpu.invariant.value
      (elim c.if-is_of.branch [
        | then-is_of w ↦ inl (sym c.is_of.ensures ∙ w.if-is_of.true, w.count-is)
        | else-is_of w ↦ inr (sym c.is_of.ensures ∙ w.if-is_of.false, w.count-is)
      ]);
  small = elim c.if-is_of.branch [ then-is_of w ↦ omega arith | else-is_of w ↦ omega arith ];
}
