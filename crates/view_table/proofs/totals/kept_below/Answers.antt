use Rattle.std.proofs.Common.{◌∙◌, sym, inl, inr, arith}
use Rattle.view_table.specs.Totals.{has_all}
use Rattle.view_table.proofs.GroupLemmas.{sum_none, sum_step}
use Rattle.view_table.proofs.totals.kept_below.Goals as goal
use Rattle.view_table.proofs.totals.kept_below.Goals.{then-has_all, else-has_all}

pub loop-vcpu-init : goal.loop-vcpu-init
loop-vcpu-init c = record { value = sym (sum_none _ _); small = omega arith }

pub loop-vcpu-preserved : goal.loop-vcpu-preserved
loop-vcpu-preserved c = record {
  value = sum_step (has_all c.args.tick_ns c.args.vcpus.now c.args.view.now.names.items c.args.view.now.slots.items) (λ v. 1) c.loop-vcpu.vcpu c.loop-vcpu.count c.if-has_all.count c.loop-vcpu.invariant.value
      (elim c.if-has_all.branch [
        | then-has_all w ↦ inl (sym c.has_all.ensures ∙ w.if-has_all.true, w.count-is)
        | else-has_all w ↦ inr (sym c.has_all.ensures ∙ w.if-has_all.false, w.count-is)
      ]);
  small = elim c.if-has_all.branch [ then-has_all w ↦ omega arith | else-has_all w ↦ omega arith ];
}
