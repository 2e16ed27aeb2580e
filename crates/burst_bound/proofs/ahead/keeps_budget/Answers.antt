use Rattle.std.proofs.Common.{◌-◌, arith}
use Rattle.burst_bound.proofs.FoundLemmas.{budgets_lost, budgets_since}
use Rattle.burst_bound.proofs.ahead.keeps_budget.Goals as goal

pub returns-then-not-is_budget-clause-no : goal.returns-then-not-is_budget-clause-no
returns-then-not-is_budget-clause-no c = λ _.
    let within = c.loop-next.invariant.within in
    budgets_lost c.args.course.now c.args.used.now c.args.vcpu c.args.task.now c.args.first (c.loop-next.next - 1)
    c.args.end (omega arith) (omega arith) c.requires.in_run (c.is_budget.ensures.no c.if-not-is_budget.true)

pub loop-next-preserved : goal.loop-next-preserved
loop-next-preserved c =
    let within = c.loop-next.invariant.within in
    let in_run = c.requires.in_run in
    let first = c.requires.since.each (c.loop-next.next - 1) (omega arith) in
    record {
      within = (let low = first.low in omega arith);
      keeps = budgets_since c.args.course.now c.args.used.now c.args.since.now c.args.vcpu c.args.task.now
          c.loop-next.next c.args.end c.requires.since (omega arith) within in_run c.loop-next.invariant.keeps
          (c.is_budget.ensures.yes c.if-not-is_budget.false);
    }

pub returns-clause-yes : goal.returns-clause-yes
returns-clause-yes c = λ _ r low high. c.loop-next.invariant.keeps r (omega arith) high
