use Rattle.std.proofs.Common.{ap, length, rules, arith}
use Rattle.size_fit.proofs.MoreLemmas.{begins, ends, tried_fails, tried_fits}
use Rattle.size_fit.proofs.more.more_of.Goals as goal

pub loop-fails-init : goal.loop-fails-init
loop-fails-init c = begins c.args.no_split c.args.host.now c.args.size.now _ c.items.ensures.few
    (omega (arith, c.items.ensures.few, ap length c.items.ensures.same))

pub loop-fails-preserved-then-fit : goal.loop-fails-preserved-then-fit
loop-fails-preserved-then-fit c = tried_fits _ _ _ _ _ _ c.loop-fails.invariant
    (omega (arith, c.loop-fails.invariant.order, c.loop-fails-test.true)) (search rules)

pub loop-fails-preserved : goal.loop-fails-preserved
loop-fails-preserved c = tried_fails _ _ _ _ _ _ c.loop-fails.invariant
    (omega (arith, c.loop-fails.invariant.order, c.loop-fails-test.true))
    (omega (arith, c.loop-fails.invariant.order, c.loop-fails-test.true)) (c.in_ok-fit.ensures.full c.if-fit.false)

pub returns : goal.returns
returns c = ends _ _ _ _ _ c.loop-fails.invariant (omega (arith, c.loop-fails-test.false))
