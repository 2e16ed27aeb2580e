use Rattle.std.proofs.Common.{ap, arith}
use Rattle.flow_net.specs.Inside.Demanded.{load}
use Rattle.flow_net.specs.Networks.{flow_in}
use Rattle.flow_net.proofs.FlowSum.{flow_and_lacks}
use Rattle.flow_net.proofs.net.Net.search.Goals as goal

pub returns-clause-rose : goal.returns-clause-rose
returns-clause-rose g c t =
    let old = c.self.inside in
    let new = c.search_once.new.flow in
    let d = old.demands in
    let l = load d in
    let seen = ap flow_in c.self.view_is in
    omega (
      arith,
      flow_and_lacks l d.ok old.flow.rows.items old.flow.lacks.items old.flow.room.items l.count
          c.self.invariant.flow_ok,
      flow_and_lacks l d.ok new.rows.items new.lacks.items new.room.items l.count c.search_once.ensures.net,
      c.search_once.ensures.raised t,
      seen,
    )
