use Rattle.std.proofs.Common.{sym, ◌∙◌, arith}
use Rattle.view_schedulers.proofs.PeriodLemmas.{some_of}
use Rattle.view_schedulers.proofs.budget.weight_of.Goals as goal

pub returns : goal.returns
returns c = rw (← c.from.ensures, ← c.from-2.ensures)
    (c.div_ceil.ensures ∙ sym (some_of c.from-2.result _ (omega (arith, c.if-task-eq0.false, c.from-2.ensures))))
