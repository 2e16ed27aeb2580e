use Rattle.std.proofs.Common.{Err, ap}
use Rattle.advice.proofs.AgainLemmas.{lacks_tasks}
use Rattle.advice.proofs.again.tasks_again.Goals as goal

pub returns-in-Err-NoPeriod-clause-found : goal.returns-in-Err-NoPeriod-clause-found
returns-in-Err-NoPeriod-clause-found c = lacks_tasks c.args.host.now _
    (c.in-Err-NoPeriod.ensures.no_period _ (ap Err c.in-Err-NoPeriod.field-0-is))
