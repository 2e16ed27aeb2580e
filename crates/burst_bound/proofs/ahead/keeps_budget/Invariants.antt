use Rattle.std.proofs.Common.{◌≤◌}
use Rattle.burst_bound.specs.Inside.Bounding.{KeepsBudget}
use Rattle.burst_bound.proofs.ahead.keeps_budget.Given as goal

-- the rounds after this one give the vCPU the budget
abbrev pub invariant-loop-next : goal.invariant-loop-next
invariant-loop-next l = record {
  within : l.next ≤ l.fn.end;
  keeps : KeepsBudget l.fn.course l.fn.used l.fn.vcpu l.fn.task l.next l.fn.end;
}

abbrev pub decreases-loop-next : goal.decreases-loop-next
decreases-loop-next l = l.next
