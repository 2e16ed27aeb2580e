use Rattle.std.proofs.Common.{arith}
use Rattle.burst_bound.proofs.FoundLemmas.{budgets_more}
use Rattle.burst_bound.proofs.bounding.keeps_budget.Goals as goal

pub loop-round-preserved : goal.loop-round-preserved
loop-round-preserved c = budgets_more c.args.course.now c.args.used.now c.args.vcpu c.args.task.now c.args.first
    c.loop-round.round c.loop-round.invariant (let in_run = c.requires.in_run in omega arith)
    (c.is_budget.ensures.yes c.if-not-is_budget.false)

pub returns-clause-yes : goal.returns-clause-yes
returns-clause-yes c = λ _ r low high. c.loop-round.invariant r low (omega arith)
