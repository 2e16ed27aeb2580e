use Rattle.worst_fit.proofs.PlacementLemmas.{place_all-end, place_all-next}
use Rattle.worst_fit.proofs.placing.place_in_order.Goals as goal

pub loop-rank-preserved : goal.loop-rank-preserved
loop-rank-preserved c = place_all-next c.args.order.now c.loop-rank.rank-index c.rank-item.result _
    _ _ c.loop-rank-test.true c.rank-item.is c.in_ok-place_rank.ensures c.loop-rank.invariant

pub returns : goal.returns
returns c = place_all-end c.args.order.now c.loop-rank.rank-index _ _ c.loop-rank-test.false
    c.loop-rank.invariant
