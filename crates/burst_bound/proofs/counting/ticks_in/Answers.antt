use Rattle.std.proofs.Common.{arith}
use Rattle.std.proofs.lemmas.List.Sums.{sum_by_more_le}
use Rattle.burst_bound.specs.Inside.Counting.{ran_ticks_in, run_by}
use Rattle.burst_bound.proofs.counting.ticks_in.Goals as goal

pub overflow_add-ticks : goal.overflow_add-ticks
unfolding run_by
overflow_add-ticks c =
    let whole = sum_by_more_le (ran_ticks_in c.args.vcpu c.args.from c.args.end) c.args.stints.now c.loop-stint.stint-index
    c.stint-item.result c.loop-stint-test.true in
    grind (arith, whole, c.requires, c.stint-item.is, c.run_in-ticks.ensures, c.loop-stint.invariant)
