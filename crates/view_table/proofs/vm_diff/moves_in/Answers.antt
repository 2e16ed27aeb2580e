use Rattle.std.proofs.Common.{◌∙◌, sym, inl, inr, arith}
use Rattle.view_table.specs.Sums.{changes_there}
use Rattle.view_table.specs.declared.sums.Matter.TheVariants.{Home}
use Rattle.view_table.proofs.GroupLemmas.{sum_none, sum_step}
use Rattle.view_table.proofs.vm_diff.moves_in.Goals as goal
use Rattle.view_table.proofs.vm_diff.moves_in.Goals.{then-changes_there, else-changes_there}

pub loop-vcpu-init : goal.loop-vcpu-init
loop-vcpu-init c = record { value = sym (sum_none _ _); small = omega arith }

pub loop-vcpu-preserved : goal.loop-vcpu-preserved
loop-vcpu-preserved c = record {
  value = sum_step (changes_there Home c.args.old.now c.args.new.now c.args.vm.now) (λ v. 1) c.loop-vcpu.vcpu c.loop-vcpu.count c.if-changes_there.count c.loop-vcpu.invariant.value
      (elim c.if-changes_there.branch [
        | then-changes_there w ↦ inl (sym c.changes_there.ensures ∙ w.if-changes_there.true, w.count-is)
        | else-changes_there w ↦ inr (sym c.changes_there.ensures ∙ w.if-changes_there.false, w.count-is)
      ]);
  small = elim c.if-changes_there.branch [ then-changes_there w ↦ omega arith | else-changes_there w ↦ omega arith ];
}
