use Rattle.std.proofs.Common.{arith}
use Rattle.cd_split.proofs.OrderLemmas.{order_from_sort}
use Rattle.cd_split.proofs.order.order_of.Goals as goal

pub returns : goal.returns
returns c =
    let made = c.loop-number.invariant in
    order_from_sort c.args.cores.now c.loop-number.order.items c.sort.new.self.items
    (omega (arith, made.as_many, c.cores-number-end.ensures.count)) made.ranks
    (λ k d lt. made.numbers k d (omega (arith, made.as_many))) c.in_ok-sort.ensures.permutation
    c.in_ok-sort.ensures.sorted
