use Rattle.std.proofs.Common.{◌≡◌, ℕ, ◌+◌, ◌*◌, ◌≤◌, Err, List, Option, ap, map, subst, sym, ◌∙◌}
use Rattle.std.proofs.lemmas.Result.{err_from_is_err_and}
use Rattle.tab_core.specs.declared.periodic.Periodic.{Periodic}
use Rattle.table_form.specs.Tables.Views.{plan_view}
use Rattle.flow_net.specs.Allotted.{allotment_view}
use Rattle.flow_net.specs.Allotments.{AreMarks, load_of_tasks, period_of_task}
use Rattle.flow_net.specs.Counts.{admitted, edges}
use Rattle.period_choice.proofs.TasksLemmas.{none_without_period}
use Rattle.wrap_table.proofs.WholeLemmas.{fits_host, no_memory_for_tasks, whole_plan}
use Rattle.wrap_table.proofs.planner.plan_whole.Goals as goal

pub returns-in_err-tasks-clause-planned : goal.returns-in_err-tasks-clause-planned
returns-in_err-tasks-clause-planned g c = λ tasks are fit.
    let p = err_from_is_err_and c.from_residual.result c.from_residual.ensures.1 in
    rw (p.1, p.2) (no_memory_for_tasks c.args.host.now tasks c.in_err-tasks.field-0.0 are
    (λ vcpu is. c.in_err-tasks.ensures.no_period vcpu (ap Err is)))

pub returns-clause-fits_host : goal.returns-clause-fits_host
returns-clause-fits_host g c =
    fits_host c.args.host.now (plan_view c.in_ok-wrap.field-0)
    (whole_plan c.args.host.now c.in_ok-tasks.tasks (allotment_view c.in_ok-allotment.allotment)
    (plan_view c.in_ok-wrap.field-0)
    c.in_ok-tasks.ensures.ok c.in_ok-allotment.ensures.allotment c.in_ok-wrap.ensures.wrapped
    (c.in_ok-wrap.ensures.capped ∙ c.capped.ensures))

pub returns-clause-without_period : goal.returns-clause-without_period
returns-clause-without_period g c = λ vcpu first.
    absurd (none_without_period c.args.host.now c.in_ok-tasks.tasks vcpu c.in_ok-tasks.ensures.ok first)

-- the cost of an allotment of a host's tasks, by any list that is its tasks
costs : (chosen tasks : List (Option Periodic)) (cores s s0 : ℕ) → tasks ≡ chosen
    → ((marks : List ℕ) → AreMarks (map period_of_task chosen) marks
    → (let l = load_of_tasks chosen marks cores in s ≤ s0 + 2 * (admitted l * l.count) * edges l))
    → (marks : List ℕ) → AreMarks (map period_of_task tasks) marks
    → (let l = load_of_tasks tasks marks cores in s ≤ s0 + 2 * (admitted l * l.count) * edges l)
costs chosen tasks cores s s0 same cost marks are =
    subst (λ (ts : List (Option Periodic)). AreMarks (map period_of_task ts) marks
    → (let l = load_of_tasks ts marks cores in s ≤ s0 + 2 * (admitted l * l.count) * edges l)) (sym same)
    (cost marks) are

pub returns-clause-cost : goal.returns-clause-cost
returns-clause-cost g c = λ tasks marks are.
    costs c.in_ok-tasks.tasks tasks c.args.host.now.cores c.allot.new.steps c.args.steps.now
    (c.in_ok-tasks.ensures.only tasks are) c.in_ok-allotment.ensures.cost marks
