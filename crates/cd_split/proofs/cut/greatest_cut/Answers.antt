use Rattle.std.proofs.Common.{arith, inl, inr}
use Rattle.std.proofs.lemmas.Bool.{cases_lt}
use Rattle.tab_core.proofs.Periods.{period_facts}
use Rattle.cd_split.specs.Cores.{pieces_on}
use Rattle.cd_split.specs.Inside.Search.{left_of}
use Rattle.cd_split.specs.Splitting.{cut_of}
use Rattle.cd_split.specs.declared.cut.TheConstants.{LEAST_CUT}
use Rattle.cd_split.proofs.Loads.{fits_with_load}
use Rattle.cd_split.proofs.cut.greatest_cut.Goals as goal

pub loop-low-init : goal.loop-low-init
loop-low-init c = record {
  least = omega arith;
  below = λ enough. absurd (omega arith);
  fits = λ enough. absurd (omega arith);
  too_much = λ more high below fits. (
      let left = c.args.left.now in
      let light = fits_with_load (pieces_on c.args.cores.now c.args.rank.now.core)
      (cut_of (left_of left) more)
      (omega arith) left.listed fits in
      let few = (c.most_by_load.ensures.most more).1 in
      omega arith);
  within = omega arith;
}

pub overflow_add-low : goal.overflow_add-low
overflow_add-low c = let facts = period_facts c.args.left.now.period c.args.left.now.listed in elim
    (cases_lt c.loop-low.low LEAST_CUT) [
      | inl few ↦ omega arith
      | inr enough ↦
          (let below = c.loop-low.invariant.below enough in omega (arith, facts.at_most))
    ]
