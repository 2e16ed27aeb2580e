use Rattle.std.proofs.Common.{◌≡◌, ℕ, zero, suc, ◌<◌, ◌-◌, ◌*◌, ◌/◌, arith}
use Rattle.std.proofs.Math.Nat.{le-div_iff_mul-le}
use Rattle.tab_core.specs.declared.TheConstants.{ROUND}
use Rattle.tab_core.proofs.Periods.{period_facts}
use Rattle.cd_split.proofs.load.most_by_load.Goals as goal

pub nonzero_div-result : goal.nonzero_div-result
nonzero_div-result c = let facts = period_facts c.args.period c.requires.listed in omega
    (arith, facts.at_least)

pub nonzero_div-result-2 : goal.nonzero_div-result-2
nonzero_div-result-2 c =
    let facts = period_facts c.args.period c.requires.listed in
    let least = facts.at_most in
    let whole = facts.whole in
    positive c.args.period (ROUND / c.args.period) whole
  where
    positive : (a b : ℕ) → a * b ≡ ROUND → 0 < b
    positive a zero e = absurd (omega arith)
    positive a (suc b) e = omega arith

pub returns-clause-most : goal.returns-clause-most
returns-clause-most c = λ cost.
    let windows = ROUND / c.args.period in
    let both = le-div_iff_mul-le {k = windows} {x = cost} {y = ROUND - c.args.load}
    (nonzero_div-result-2 c) in (
      (λ le. let room = both.0 le in omega arith),
      (λ room. both.1 (omega arith)),
    )
