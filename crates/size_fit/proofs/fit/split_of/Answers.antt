use Rattle.std.proofs.Common.{arith, ap, length}
use Rattle.size_fit.proofs.SplitLemmas.{few_left}
use Rattle.size_fit.proofs.fit.split_of.Goals as goal

pub returns-clause-few : goal.returns-clause-few
returns-clause-few c =
    let few = c.items.ensures.few in
    let less = few_left c.args.tasks.now c.args.host.now.cores c.in_ok-placed.placed c.in_ok-placed.ensures.placement in
    omega (arith, few, less, ap length c.items-2.ensures, c.in_ok-split.ensures.len, ap length c.items.ensures.same)
