use Rattle.std.proofs.Common.{arith, ◌+◌, ◌*◌, ◌≤◌}
use Rattle.view_chart.proofs.Sizes.{mark_low}
use Rattle.view_chart.specs.Axes.{first_tick, tick_step}
use Rattle.view_chart.proofs.axis.marked_tick.Goals as goal

pub overflow_mul-tick : goal.overflow_mul-tick
overflow_mul-tick c =
    let f = c.args.frame.now in
    let low = mark_low (first_tick f) c.args.k f.to (tick_step f) c.requires in
    rw (c.first_tick.ensures, c.tick_step.ensures.value)
    (omega (arith, low, c.from-last.ensures))

pub prove-unreachable-requires : goal.prove-unreachable-requires
prove-unreachable-requires c =
    let f = c.args.frame.now in
    let low = mark_low (first_tick f) c.args.k f.to (tick_step f) c.requires in
    let same : (c.first_tick.result + c.args.k) * c.tick_step.result ≤ f.to =
    rw (c.first_tick.ensures, c.tick_step.ensures.value) low in
    omega (arith, same, c.from-last.ensures, c.if-prove.true)
