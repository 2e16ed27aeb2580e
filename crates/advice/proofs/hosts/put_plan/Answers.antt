use Rattle.std.proofs.Common.{refl}
use Rattle.std.proofs.lemmas.Option.{MatchOption-at_none, MatchOption-at_some}
use Rattle.advice.specs.Advice.{IsPlanLineAdvice, TellsOfLine}
use Rattle.advice.proofs.AgainLemmas.{no_host_is_told, no_task_is_told}
use Rattle.advice.proofs.WritesLemmas.{tells_nothing, tells_tasks, writes_such}
use Rattle.advice.proofs.hosts.put_plan.Goals as goal

pub returns-in_default : goal.returns-in_default
returns-in_default g c =
    let none = MatchOption-at_none _ _ c.in_default.is c.in_ok-host.ensures.found in
    tells_nothing (IsPlanLineAdvice c.args.section.now c.args.plan.now c.args.line) _
    (no_host_is_told c.args.section.now (TellsOfLine c.args.plan.now c.args.line) none)

pub returns-in-Some-2 : goal.returns-in-Some-2
returns-in-Some-2 g c =
    let is_host = MatchOption-at_some _ _ c.in-Some.host c.in-Some.is c.in_ok-host.ensures.found in
    let are_tasks = MatchOption-at_some _ _ c.in-Some-2.tasks c.in-Some-2.is c.in_ok-tasks.ensures.found in
    let told = TellsOfLine c.args.plan.now c.args.line in
    rw c.of_sink.ensures (tells_tasks c.args.section.now told c.in-Some.host c.in-Some-2.tasks _ _ _
    is_host are_tasks (writes_such (told c.in-Some.host c.in-Some-2.tasks) _ _ _ _ refl c.put_plan_line.ensures))

pub returns : goal.returns
returns g c =
    let is_host = MatchOption-at_some _ _ c.in-Some.host c.in-Some.is c.in_ok-host.ensures.found in
    let none = MatchOption-at_none _ _ c.in-None.is c.in_ok-tasks.ensures.found in
    tells_nothing (IsPlanLineAdvice c.args.section.now c.args.plan.now c.args.line) _
    (no_task_is_told c.args.section.now (TellsOfLine c.args.plan.now c.args.line) c.in-Some.host is_host none)
