use Rattle.std.proofs.Common.{◌+◌, ◌<◌, sym, arith, inl, inr, IfSome, None, Some, Option, ℕ}
use Rattle.view_table.proofs.DiffLemmas.{number_of-zero, number_step}
use Rattle.view_table.proofs.diff.number_of.Goals as goal
use Rattle.view_table.proofs.diff.number_of.Goals.{then-eq, else-eq}

pub loop-vcpu-init : goal.loop-vcpu-init
loop-vcpu-init c = record { found = sym (number_of-zero c.args.names.now c.args.name.now); low = tt }

-- a number below one is below the next
low_more : (found : Option ℕ) (n : ℕ) → IfSome found (λ v. v < n) → IfSome found (λ v. v < n + 1)
low_more None n h = tt
low_more (Some v) n h = omega (arith, h)

pub loop-vcpu-preserved : goal.loop-vcpu-preserved
loop-vcpu-preserved c = record {
  found = number_step c.args.names.now c.loop-vcpu.vcpu c.args.name.now c.eq.result c.if-eq.found c.loop-vcpu.found
      (rw c.name_at.ensures at c.eq.ensures) c.loop-vcpu.invariant.found
      (elim c.if-eq.branch [
        | then-eq w ↦ inl (w.if-eq.true, w.found-is)
        | else-eq w ↦ inr (w.if-eq.false, w.found-is)
      ]);
  low = elim c.if-eq.branch [
    | then-eq w ↦ rw w.found-is (omega arith)
    | else-eq w ↦ rw w.found-is (low_more c.loop-vcpu.found c.loop-vcpu.vcpu c.loop-vcpu.invariant.low)
  ];
}
