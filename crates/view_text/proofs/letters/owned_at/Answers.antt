use Rattle.std.proofs.Common.{arith, ℕ, inl, inr}
use Rattle.std.proofs.lemmas.Bool.{cases_eq}
use Rattle.std.proofs.lemmas.Bool.Decides.{nat_tests}
use Rattle.std.proofs.lemmas.Grind.{common_steps}
use Rattle.std.proofs.lemmas.List.{get_or-replicate}
use Rattle.view_text.proofs.letters.owned_at.Goals as goal

pub loop-bar-init : goal.loop-bar-init
loop-bar-init c = record {
  count = grind (arith, common_steps);
  owned = λ v low.
      let none = get_or-replicate {A = ℕ} 256 v 0 0 low in
      grind (arith, common_steps, none);
}

pub loop-bar-preserved : goal.loop-bar-preserved
loop-bar-preserved c = record {
  count = grind (arith, common_steps, c.loop-bar.invariant.count);
  owned = λ v low.
      let was = c.loop-bar.invariant.owned v low in
      elim (cases_eq v c.from-i.result) [
        | inl same ↦ grind (
          arith,
          common_steps,
          nat_tests,
          was,
          same,
          c.loop-bar.invariant.count,
          c.from-i.ensures,
          c.overlap.ensures,
          c.min.ensures,
          c.edge_of-first.ensures,
          c.edge_of-last.ensures,
          c.width_at-wide.ensures,
        )
        | inr other ↦ grind (
          arith,
          common_steps,
          nat_tests,
          was,
          other,
          c.loop-bar.invariant.count,
          c.from-i.ensures,
        )
      ];
}
