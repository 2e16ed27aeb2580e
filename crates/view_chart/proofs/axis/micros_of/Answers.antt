use Rattle.std.proofs.Common.{arith, ◌+◌, ◌*◌, ◌≤◌}
use Rattle.view_chart.proofs.Sizes.{mark_low}
use Rattle.view_chart.specs.Axes.{first_mark, micros_at, step_of}
use Rattle.view_chart.proofs.axis.micros_of.Goals as goal

pub overflow_mul-us : goal.overflow_mul-us
overflow_mul-us c =
    let f = c.args.frame.now in
    let low = mark_low (first_mark f) c.args.k (micros_at f f.to) (step_of f) c.requires in
    rw (c.first_mark.ensures.value, c.step_of.ensures.value)
    (omega (arith, low, c.micros_at-last.ensures.value, c.micros_at-last.ensures.small))

pub prove-unreachable-requires : goal.prove-unreachable-requires
prove-unreachable-requires c =
    let f = c.args.frame.now in
    let low = mark_low (first_mark f) c.args.k (micros_at f f.to) (step_of f) c.requires in
    let same : (c.first_mark.result + c.args.k) * c.step_of.result ≤ c.micros_at-last.result =
    rw (c.first_mark.ensures.value, c.step_of.ensures.value, c.micros_at-last.ensures.value) low in
    omega (arith, same, c.if-prove.true)
