use Rattle.std.proofs.Common.{◌∙◌, sym, inl, inr, arith}
use Rattle.view_table.specs.Totals.{is_share_asked}
use Rattle.view_table.proofs.GroupLemmas.{sum_none, sum_step}
use Rattle.view_table.proofs.totals.admitted_below.Goals as goal
use Rattle.view_table.proofs.totals.admitted_below.Goals.{then-is_admitted, else-is_admitted}

pub loop-vcpu-init : goal.loop-vcpu-init
loop-vcpu-init c = record { value = sym (sum_none _ _); small = omega arith }

pub loop-vcpu-preserved : goal.loop-vcpu-preserved
loop-vcpu-preserved c = record {
  value = sum_step (is_share_asked c.args.vcpus.now c.args.view.now.names.items) (λ v. 1) c.loop-vcpu.vcpu c.loop-vcpu.count c.if-is_admitted.count c.loop-vcpu.invariant.value
      (elim c.if-is_admitted.branch [
        | then-is_admitted w ↦ inl (sym c.is_admitted.ensures ∙ w.if-is_admitted.true, w.count-is)
        | else-is_admitted w ↦ inr (sym c.is_admitted.ensures ∙ w.if-is_admitted.false, w.count-is)
      ]);
  small = elim c.if-is_admitted.branch [ then-is_admitted w ↦ omega arith | else-is_admitted w ↦ omega arith ];
}
