use Rattle.std.proofs.Common.{arith}
use Rattle.coalesce.proofs.Unswapped.{all_none, one_more_none}
use Rattle.coalesce.proofs.pass.has_sliver_between.Goals as goal

pub loop-at-preserved : goal.loop-at-preserved
loop-at-preserved c =
    one_more_none c.args.sliver c.args.segments.now c.loop-at.at c.index-segments-at.result
    c.index-segments-at-in-loop-at.result c.index-segments-at-in-loop-at-2.result (omega (arith, c.loop-at.auto.at))
    (omega (arith, c.loop-at-test.true))
    c.index-segments-at.is c.index-segments-at-in-loop-at.is c.index-segments-at-in-loop-at-2.is
    (c.is_around_sliver.ensures c.if-is_around_sliver.false) c.loop-at.invariant

pub returns : goal.returns
returns c same pieces = all_none pieces c.args.sliver c.args.segments.now c.loop-at.at
    (omega (arith, c.loop-at-test.false)) c.loop-at.invariant
