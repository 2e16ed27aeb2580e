use Rattle.std.proofs.Common.{sym, ◌∙◌, arith}
use Rattle.view_schedulers.proofs.PeriodLemmas.{some_of}
use Rattle.view_schedulers.proofs.budget.periods_of.Goals as goal

pub returns-in-Quota-2-clause-value : goal.returns-in-Quota-2-clause-value
returns-in-Quota-2-clause-value c = rw c.in-Quota-2.is
    (c.div_ceil.ensures ∙ sym (some_of c.args.cost _ (omega (arith, c.if-cost-eq0.false))))
