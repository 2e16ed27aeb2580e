use Rattle.std.proofs.Common.{Err, ap}
use Rattle.std.proofs.lemmas.Result.{err_from_is_err_and}
use Rattle.period_choice.proofs.TasksLemmas.{none_without_period}
use Rattle.plan_make.proofs.TasksOfPlan.{no_memory_for_tasks}
use Rattle.plan_make.proofs.planner.plan_staying.Goals as goal

pub returns-in_err-tasks-clause-bound : goal.returns-in_err-tasks-clause-bound
returns-in_err-tasks-clause-bound c tasks are within =
    let p = err_from_is_err_and c.from_residual.result c.from_residual.ensures.1 in
    rw (p.1, p.2) (no_memory_for_tasks c.args.host.now tasks c.in_err-tasks.field-0.0 are
    (λ vcpu is. c.in_err-tasks.ensures.no_period vcpu (ap Err is)))

pub returns-in_err-tasks-clause-planned : goal.returns-in_err-tasks-clause-planned
returns-in_err-tasks-clause-planned c plan planned =
    let p = err_from_is_err_and c.from_residual.result c.from_residual.ensures.1 in
    rw (p.1, p.2)
    (no_memory_for_tasks c.args.host.now plan.tasks c.in_err-tasks.field-0.0
    planned.layout.is_start.tasks_are
    (λ vcpu is. c.in_err-tasks.ensures.no_period vcpu (ap Err is)))

pub returns-clause-no_period : goal.returns-clause-no_period
returns-clause-no_period c vcpu is = absurd (c.plan_staying_with.ensures.no_period vcpu is)

pub returns-clause-without_period : goal.returns-clause-without_period
returns-clause-without_period c vcpu first =
    absurd (none_without_period c.args.host.now c.in_ok-tasks.tasks vcpu c.in_ok-tasks.ensures.ok first)
