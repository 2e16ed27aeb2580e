use Rattle.std.proofs.lemmas.Option.{MatchOption-at_none, MatchOption-at_some}
use Rattle.advice.specs.Advice.{IsStayText, TellsOfPlan}
use Rattle.advice.proofs.AgainLemmas.{no_budget_is_told}
use Rattle.advice.proofs.WritesLemmas.{tells_budgets, tells_nothing}
use Rattle.advice.proofs.hosts.put_no_room_to_stay.Goals as goal

pub returns-in-Some : goal.returns-in-Some
returns-in-Some g c =
    let are_tasks = MatchOption-at_some _ _ c.in-Some.tasks c.in-Some.is c.in_ok-tasks.ensures.found in
    tells_budgets TellsOfPlan c.args.host.now c.in-Some.tasks _ _ _ are_tasks c.put_whether_planned.ensures

pub returns-in-None : goal.returns-in-None
returns-in-None g c =
    let none = MatchOption-at_none _ _ c.in-None.is c.in_ok-tasks.ensures.found in
    tells_nothing (IsStayText c.args.host.now) _ (no_budget_is_told TellsOfPlan c.args.host.now none)
