use Rattle.std.proofs.Common.{arith, ap, ◌∙◌, ◌≡◌, ◌+◌, take, take_all}
use Rattle.view_lanes.proofs.LaneLemmas.{all_lanes}
use Rattle.view_lanes.specs.Shown.{lane_bars}
use Rattle.view_lanes.proofs.lanes.lanes_from.Goals as goal

pub returns-clause-lanes : goal.returns-clause-lanes
returns-clause-lanes c =
    let all : take c.loop-stretch.stretch-index c.args.stretches.now ≡ c.args.stretches.now =
    take_all _ _ (omega (arith, c.loop-stretch-test.false)) in
    all_lanes c.args.frame.now c.args.stretches.now c.args.first c.args.count c.loop-stretch.lanes.items
    c.loop-stretch.invariant.count
    (λ i low. c.loop-stretch.invariant.bars i low
    ∙ ap (λ ss. lane_bars c.args.frame.now ss (c.args.first + i)) all)
