use Rattle.std.proofs.Common.{◌∷◌, [], arith, ap, length, length-append, ◌∙◌}
use Rattle.fleet_place.proofs.SplitCountLemmas.{count_more}
use Rattle.fleet_place.proofs.split.splits_of.Goals as goal

pub loop-host-preserved : goal.loop-host-preserved
loop-host-preserved c =
    let size = c.loop-host.invariant.size in
    rw c.in_ok-push.ensures.items (record {
      size = omega (arith, size, length-append c.loop-host.splits.items (c.in_ok-split_on.field-0 ∷ []));
      each = count_more c.args.policy.now c.args.hosts.now c.loop-host.host-index c.loop-host.splits.items
          c.host-item.result c.in_ok-split_on.field-0 c.loop-host-test.true c.host-item.is c.loop-host.invariant.size
          c.loop-host.invariant.each c.in_ok-split_on.ensures;
    })
