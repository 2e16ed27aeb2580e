use Rattle.worst_fit.proofs.StayingLemmas.{stay_all-end, stay_all-next}
use Rattle.worst_fit.proofs.placing.stay_in_order.Goals as goal

pub loop-rank-preserved : goal.loop-rank-preserved
loop-rank-preserved c = stay_all-next c.args.homes.now c.args.order.now c.loop-rank.rank-index
    c.rank-item.result _ _ _ c.loop-rank-test.true c.rank-item.is
    (rw (← c.home_of.ensures) c.in_ok-stay_or_move.ensures) c.loop-rank.invariant

pub returns : goal.returns
returns c = stay_all-end c.args.homes.now c.args.order.now c.loop-rank.rank-index _ _
    c.loop-rank-test.false c.loop-rank.invariant
