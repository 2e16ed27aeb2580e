use Rattle.std.proofs.Common.{arith, subst, ◌≡◌, ℕ}
use Rattle.view_lanes.specs.Colours.{stands_at, twice_below}
use Rattle.view_lanes.proofs.tones.is_split.Goals as goal

pub returns : goal.returns
returns c =
    let all : c.loop-core.core ≡ 32 = omega (arith, c.loop-core-test.false, c.loop-core.auto.core-end) in
    subst (λ (n : ℕ). c.loop-core.twice ≡ twice_below (stands_at c.args.figures.now c.args.v) n) all
    c.loop-core.invariant.twice
