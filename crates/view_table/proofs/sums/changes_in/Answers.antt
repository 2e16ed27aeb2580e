use Rattle.std.proofs.Common.{◌∙◌, sym, inl, inr}
use Rattle.view_table.specs.Sums.{changes_there}
use Rattle.view_table.proofs.GroupLemmas.{any_below-zero, any_step}
use Rattle.view_table.proofs.sums.changes_in.Goals as goal
use Rattle.view_table.proofs.sums.changes_in.Goals.{then-changes_there, else-changes_there}

pub loop-vcpu-init : goal.loop-vcpu-init
loop-vcpu-init c = sym (any_below-zero _)

pub loop-vcpu-preserved : goal.loop-vcpu-preserved
loop-vcpu-preserved c = any_step (changes_there c.args.matter c.args.old.now c.args.new.now c.args.vm.now) c.loop-vcpu.vcpu c.loop-vcpu.found c.if-changes_there.found c.loop-vcpu.invariant
    (elim c.if-changes_there.branch [
      | then-changes_there w ↦ inl (sym c.changes_there.ensures ∙ w.if-changes_there.true, w.found-is)
      | else-changes_there w ↦ inr (sym c.changes_there.ensures ∙ w.if-changes_there.false, w.found-is)
    ])
