use Rattle.std.proofs.Common.{◌∙◌, sym, inl, inr, arith}
use Rattle.view_table.specs.Totals.{is_split}
use Rattle.view_table.proofs.GroupLemmas.{sum_none, sum_step}
use Rattle.view_table.proofs.totals.split_below.Goals as goal
use Rattle.view_table.proofs.totals.split_below.Goals.{then-is_split, else-is_split}

pub loop-vcpu-init : goal.loop-vcpu-init
loop-vcpu-init c = record { value = sym (sum_none _ _); small = omega arith }

pub loop-vcpu-preserved : goal.loop-vcpu-preserved
loop-vcpu-preserved c = record {
  value = sum_step (is_split c.args.view.now.slots.items c.args.view.now.cores) (λ v. 1) c.loop-vcpu.vcpu c.loop-vcpu.count c.if-is_split.count c.loop-vcpu.invariant.value
      (elim c.if-is_split.branch [
        | then-is_split w ↦ inl (sym c.is_split.ensures ∙ w.if-is_split.true, w.count-is)
        | else-is_split w ↦ inr (sym c.is_split.ensures ∙ w.if-is_split.false, w.count-is)
      ]);
  small = elim c.if-is_split.branch [ then-is_split w ↦ omega arith | else-is_split w ↦ omega arith ];
}
