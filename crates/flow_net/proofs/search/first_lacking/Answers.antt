use Rattle.std.proofs.Common.{◌+◌, ◌≤◌, arith}
use Rattle.flow_net.specs.Inside.Demanded.{load}
use Rattle.flow_net.specs.Counts.{jobs_due}
use Rattle.tab_core.proofs.Totals.{total-step}
use Rattle.flow_net.proofs.Searched.{total-part}
use Rattle.flow_net.proofs.search.first_lacking.Goals as goal

pub returns-in-Some-clause-cost : goal.returns-in-Some-clause-cost
returns-in-Some-clause-cost g c =
    let l = load c.args.demands.now in
    let v = c.loop-v.v in
    let in_width : v + 1
    ≤ l.width = omega (arith, c.loop-v-test.true, c.len-v-end.ensures, c.args.demands.now.costs.ok.0) in
    omega (
      arith,
      c.loop-v.invariant.cost,
      c.first_of.ensures.cost,
      total-step (jobs_due l) v,
      total-part
          (jobs_due l) (v + 1) l.width in_width,
    )
