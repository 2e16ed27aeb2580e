use Rattle.std.proofs.Common.{◌∙◌, sym, inl, inr, arith}
use Rattle.view_table.specs.Sums.{is_first}
use Rattle.view_table.proofs.GroupLemmas.{sum_none, sum_step}
use Rattle.view_table.proofs.sums.count_vms.Goals as goal
use Rattle.view_table.proofs.sums.count_vms.Goals.{then-is_first, else-is_first}

pub loop-vcpu-init : goal.loop-vcpu-init
loop-vcpu-init c = record { value = sym (sum_none _ _); small = omega arith }

pub loop-vcpu-preserved : goal.loop-vcpu-preserved
loop-vcpu-preserved c = record {
  value = sum_step (is_first c.args.view.now) (λ v. 1) c.loop-vcpu.vcpu c.loop-vcpu.count c.if-is_first.count c.loop-vcpu.invariant.value
      (elim c.if-is_first.branch [
        | then-is_first w ↦ inl (sym c.is_first.ensures ∙ w.if-is_first.true, w.count-is)
        | else-is_first w ↦ inr (sym c.is_first.ensures ∙ w.if-is_first.false, w.count-is)
      ]);
  small = elim c.if-is_first.branch [ then-is_first w ↦ omega arith | else-is_first w ↦ omega arith ];
}
