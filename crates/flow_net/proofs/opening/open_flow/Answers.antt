use Rattle.flow_net.specs.Flows.{flow_of}
use Rattle.flow_net.specs.Inside.Demanded.{load}
use Rattle.flow_net.proofs.Opened.{opened_most, opened_used, opened_lacks}
use Rattle.flow_net.proofs.opening.open_flow.Goals as goal

pub lacks_of-requires-clause-most : goal.lacks_of-requires-clause-most
lacks_of-requires-clause-most c =
    let d = c.args.demands.now in
    opened_most (load d) d.ok (flow_of c.in_ok-rows.rows.items) c.in_ok-rows.ensures.shares

pub rooms_of-requires-clause-fits : goal.rooms_of-requires-clause-fits
rooms_of-requires-clause-fits c =
    let d = c.args.demands.now in
    opened_used (load d) d.ok (flow_of c.in_ok-rows.rows.items) d.fits c.in_ok-rows.ensures.shares

pub returns-clause-lacks : goal.returns-clause-lacks
returns-clause-lacks c =
    let d = c.args.demands.now in
    opened_lacks (load d) d.ok c.in_ok-rows.rows.items c.in_ok-lacks.lacks.items c.in_ok-rows.ensures.shares
    c.in_ok-lacks.ensures.due
