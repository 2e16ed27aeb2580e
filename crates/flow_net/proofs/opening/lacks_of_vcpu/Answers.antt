use Rattle.std.proofs.Common.{◌≡◌, arith}
use Rattle.std.proofs.lemmas.List.{get_or_read}
use Rattle.flow_net.specs.Flows.{flow_of}
use Rattle.flow_net.specs.Inside.Demanded.{load}
use Rattle.flow_net.proofs.Lacking.{lacks_due, lacks_end, lacks_start}
use Rattle.flow_net.proofs.opening.lacks_of_vcpu.Goals as goal

pub returns-clause-due : goal.returns-clause-due
returns-clause-due c k lt =
    let d = c.args.demands.now in
    let l = load d in
    let last : c.loop-i.i ≡ l.count
    = omega (
      arith,
      c.loop-i-test.false,
      c.loop-i.auto.i-end,
      c.len-i-end.ensures,
      c.requires.len,
      c.args.rows.now.ok.0,
    ) in
    rw c.of.ensures (lacks_due l d.ok (flow_of c.args.rows.now.items) c.args.v c.loop-i.lacks.items
    c.loop-i.job.end
    c.loop-i.job.lack c.loop-i.i c.requires.vcpu last c.loop-i.invariant k lt)

pub nonzero_div-period : goal.nonzero_div-period
nonzero_div-period c =
    let d = c.args.demands.now in
    let period = get_or_read d.periods.items c.args.v c.index-period.result.now
    (omega (arith, d.same_len, c.requires.vcpu)) c.index-period.ensures 0 in
    omega (arith, period, d.ok.some_period c.args.v c.requires.vcpu)

pub loop-i-init : goal.loop-i-init
loop-i-init c =
    let d = c.args.demands.now in
    let period = get_or_read d.periods.items c.args.v c.index-period.result.now
    (omega (arith, d.same_len, c.requires.vcpu)) c.index-period.ensures 0 in
    let cost = get_or_read d.costs.items c.args.v c.index.result.now c.requires.vcpu c.index.ensures 0 in
    rw (period, cost, c.in_ok-lacks.ensures.items)
    (lacks_start (load d) d.ok (flow_of c.args.rows.now.items) c.args.v c.requires.vcpu)

pub returns-clause-len : goal.returns-clause-len
returns-clause-len c =
    let d = c.args.demands.now in
    let l = load d in
    let last : c.loop-i.i ≡ l.count
    = omega (
      arith,
      c.loop-i-test.false,
      c.loop-i.auto.i-end,
      c.len-i-end.ensures,
      c.requires.len,
      c.args.rows.now.ok.0,
    ) in
    rw c.of.ensures (lacks_end l d.ok (flow_of c.args.rows.now.items) c.args.v c.loop-i.lacks.items
    c.loop-i.job.end c.loop-i.job.lack c.loop-i.i c.requires.vcpu last c.loop-i.invariant)
