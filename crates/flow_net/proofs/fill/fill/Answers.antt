use Rattle.std.proofs.Common.{◌≡◌, arith}
use Rattle.flow_net.specs.Inside.Demanded.{load}
use Rattle.flow_net.proofs.fill.fill.Goals as goal

pub loop-i-preserved : goal.loop-i-preserved
loop-i-preserved g c =
    let inv = c.loop-i.invariant in
    record {
      net = c.hand_all.ensures.net;
      lacks = omega (arith, c.hand_all.ensures.lacks, inv.lacks);
      watches = c.hand_all.ensures.watches;
      wanting = c.rate_all-tail.ensures.wanting;
      cost = omega (arith, c.tell.ensures, c.rate_all-tail.ensures.cost, inv.cost);
    }

pub returns-clause-cost : goal.returns-clause-cost
returns-clause-cost g c =
    let last : c.loop-i.i ≡ (load c.args.demands.now).count =
    omega (arith, c.loop-i-test.false, c.loop-i.auto.i-end, c.len-i-end.ensures) in
    rw last at c.loop-i.invariant.cost
