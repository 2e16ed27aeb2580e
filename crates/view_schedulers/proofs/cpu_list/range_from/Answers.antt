use Rattle.std.proofs.Common.{arith}
use Rattle.view_schedulers.proofs.CpuListLemmas.{part_is}
use Rattle.view_schedulers.proofs.cpu_list.range_from.Goals as goal

pub returns : goal.returns
returns c = λ text is. part_is c.args.ends.now c.first_split.result.0.now text c.args.first c.in_ok-last.last
    c.in_ok-step.step c.first_split.result.1 c.first_split.ensures c.in_ok-last.ensures.0 c.in_ok-step.ensures.value
    (omega (arith, c.if-last-first.false)) (omega (arith, c.if-step-lt1.false)) is
