use Rattle.burst_bound.specs.Inside.Bounding.{KeepsBudget}
use Rattle.burst_bound.proofs.bounding.keeps_budget.Given as goal

-- the rounds so far give the vCPU the budget
abbrev pub invariant-loop-round : goal.invariant-loop-round
invariant-loop-round l = KeepsBudget l.fn.course l.fn.used l.fn.vcpu l.fn.task l.fn.first l.round
