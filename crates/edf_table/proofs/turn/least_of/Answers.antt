use Rattle.std.proofs.Common.{◌≤◌, get_or, subst, sym, inl, inr, arith}
use Rattle.std.proofs.lemmas.Bool.{cases_eq}
use Rattle.edf_table.proofs.turn.least_of.Goals as goal

pub loop-i-preserved : goal.loop-i-preserved
loop-i-preserved c = record {
  in_round = omega (arith, c.loop-i.invariant.in_round);
  below = λ k lt. elim (cases_eq k c.loop-i.i) [
    | inl last ↦ subst (λ m. c.min-least.result ≤ get_or c.args.begins.now m 0) (sym last) (omega arith)
    | inr before ↦ omega (arith, c.loop-i.invariant.below k (omega arith))
  ];
  later = λ tick in_round all.
      omega (arith, c.loop-i.invariant.later tick in_round all, all c.loop-i.i c.loop-i-test.true);
}
