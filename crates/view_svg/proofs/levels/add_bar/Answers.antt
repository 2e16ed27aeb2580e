use Rattle.std.proofs.Common.{arith, inl, inr}
use Rattle.std.proofs.lemmas.Bool.{cases_eq}
use Rattle.std.proofs.lemmas.Grind.{common_steps}
use Rattle.view_svg.proofs.levels.add_bar.Goals as goal

pub loop-j-preserved : goal.loop-j-preserved
loop-j-preserved c = record {
  count = grind (arith, common_steps, c.add_ticks.ensures, c.loop-j.invariant.count);
  added = λ k low few.
      let was = c.loop-j.invariant.added k in
      let old = c.loop-j.invariant.rest k in
      elim (cases_eq k c.loop-j.j) [
        | inl same ↦ grind (arith, common_steps, c.add_ticks.ensures, c.loop-j.invariant.count, old, same)
        | inr other ↦ grind (arith, common_steps, c.add_ticks.ensures, c.loop-j.invariant.count, was, other)
      ];
  rest = λ k high.
      let old = c.loop-j.invariant.rest k in
      grind (arith, common_steps, c.add_ticks.ensures, c.loop-j.invariant.count, old);
}
