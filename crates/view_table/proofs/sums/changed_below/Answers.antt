use Rattle.std.proofs.Common.{◌∙◌, sym, inl, inr, arith}
use Rattle.view_table.specs.Sums.{is_changed}
use Rattle.view_table.proofs.GroupLemmas.{sum_none, sum_step}
use Rattle.view_table.proofs.sums.changed_below.Goals as goal
use Rattle.view_table.proofs.sums.changed_below.Goals.{then-is_changed, else-is_changed}

pub loop-vcpu-init : goal.loop-vcpu-init
loop-vcpu-init c = record { value = sym (sum_none _ _); small = omega arith }

pub loop-vcpu-preserved : goal.loop-vcpu-preserved
loop-vcpu-preserved c = record {
  value = sum_step (is_changed c.args.matter c.args.old.now c.args.new.now) (λ v. 1) c.loop-vcpu.vcpu c.loop-vcpu.count c.if-is_changed.count c.loop-vcpu.invariant.value
      (elim c.if-is_changed.branch [
        | then-is_changed w ↦ inl (sym c.is_changed.ensures ∙ w.if-is_changed.true, w.count-is)
        | else-is_changed w ↦ inr (sym c.is_changed.ensures ∙ w.if-is_changed.false, w.count-is)
      ]);
  small = elim c.if-is_changed.branch [ then-is_changed w ↦ omega arith | else-is_changed w ↦ omega arith ];
}
