use Rattle.std.proofs.Common.{◌∙◌, sym, inl, inr, arith, ap, ◌+◌, ℕ}
use Rattle.view_table.specs.Groups.{is_of_vm}
use Rattle.view_table.specs.Table.{given_share}
use Rattle.view_table.proofs.GroupLemmas.{sum_none, sum_step}
use Rattle.view_table.proofs.groups.given_in.Goals as goal
use Rattle.view_table.proofs.groups.given_in.Goals.{then-is_of, else-is_of}

pub loop-vcpu-init : goal.loop-vcpu-init
loop-vcpu-init c = record { value = sym (sum_none _ _); small = omega arith }

pub loop-vcpu-preserved : goal.loop-vcpu-preserved
loop-vcpu-preserved c = record {
  value = sum_step (is_of_vm c.args.view.now.names.items c.args.vm.now) (given_share c.args.view.now.slots.items) c.loop-vcpu.vcpu c.loop-vcpu.share c.if-is_of.share c.loop-vcpu.invariant.value
      (elim c.if-is_of.branch [
        | then-is_of w ↦ inl (sym c.is_of.ensures ∙ w.if-is_of.true, w.share-is ∙ ap (λ (s : ℕ). c.loop-vcpu.share + s) w.given_share-share.ensures.value)
        | else-is_of w ↦ inr (sym c.is_of.ensures ∙ w.if-is_of.false, w.share-is)
      ]);
  small = elim c.if-is_of.branch [ then-is_of w ↦ omega arith | else-is_of w ↦ omega arith ];
}
