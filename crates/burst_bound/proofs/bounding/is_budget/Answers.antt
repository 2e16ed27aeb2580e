use Rattle.std.proofs.Common.{sym, arith}
use Rattle.std.proofs.lemmas.Bool.Decides.{nat_tests}
use Rattle.burst_bound.proofs.bounding.is_budget.Goals as goal

pub returns-then-other-task-clause-yes : goal.returns-then-other-task-clause-yes
returns-then-other-task-clause-yes c = λ same. record {
  task = c.in-Some.other;
  is = sym c.in-Some.ensures;
  cost_is = grind (arith, nat_tests, c.if-other-task.true);
  period_is = grind (arith, nat_tests, same);
}
