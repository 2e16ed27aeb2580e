use Rattle.std.proofs.Common.{Err, ap, sym, ◌∙◌}
use Rattle.plan_book.proofs.NextState.{told_unplanned}
use Rattle.plan_book.proofs.planning.planned.Goals as goal

pub returns-in-Some-clause-unplanned : goal.returns-in-Some-clause-unplanned
returns-in-Some-clause-unplanned c =
    told_unplanned c.args.host.now c.in-Err.fault c.in-Some.outcome (sym c.outcome_of.ensures ∙ c.in-Some.is)
    (λ vcpu is. c.in-Err.ensures.no_period vcpu (ap Err is))
    (λ vcpu rest over is. c.in-Err.ensures.no_room vcpu rest over (ap Err is))
