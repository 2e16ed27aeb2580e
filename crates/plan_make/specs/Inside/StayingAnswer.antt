-- What making a plan from old homes answers once each admitted vCPU has a period.
use Rattle.std.specs.Prelude.{◌≡◌, ℕ, List, Option, Result, IfErr, IfOk, IsErr, IsErrOf}
use Rattle.tab_core.specs.declared.host.Host.{Host}
use Rattle.tab_core.specs.declared.over.Over.{Over}
use Rattle.tab_core.specs.declared.periodic.Periodic.{Periodic}
use Rattle.table_form.specs.Tables.Plans.{IsPlanFor, PlanView}
use Rattle.table_form.specs.Tables.Views.{plan_view}
use Rattle.table_form.specs.declared.plan.Plan.{Plan}
use Rattle.period_choice.specs.Tasks.{AreTasksOf}
use Rattle.worst_fit.specs.Bound.{IsWithinBound}
use Rattle.worst_fit.specs.Staying.{LeaveForNeed, StayWhereAllFit}
use Rattle.plan_make.specs.Planned.{IsFirstStayingWithoutRoom, IsStayingPlan}
use Rattle.plan_make.specs.declared.fault.PlanFault.{PlanFault}
use Rattle.plan_make.specs.declared.fault.PlanFault.TheVariants.{NoMemory, NoRoom}

-- the host's one plan from these old homes, where a vCPU leaves its home only for need; or else its
-- first vCPU without room, if there is one; or that memory ran out
pub record IsStayingAnswer (old_homes : List (Option ℕ)) (host : Host)
    (result : Result Plan PlanFault) : Type 0 where
  pub ok : IfOk result (λ plan. IsStayingPlan old_homes host (plan_view plan))
  pub only : IfOk result (λ plan. (other : PlanView) → IsStayingPlan old_homes host other
      → other ≡ plan_view plan)
  pub fits_host : IfOk result (λ plan. IsPlanFor host (plan_view plan))
  pub chosen : IfOk result (λ plan. AreTasksOf host plan.tasks)
  pub stay : IfOk result (λ plan. StayWhereAllFit old_homes plan.tasks host.cores plan.tables.homes)
  pub need : IfOk result (λ plan. LeaveForNeed old_homes plan.tasks host.cores plan.tables.homes)
  pub no_room : (vcpu rest : ℕ) (over : List Over) → IsErrOf result (NoRoom vcpu rest over)
      → IsFirstStayingWithoutRoom old_homes host vcpu rest over
  pub without_room : (vcpu rest : ℕ) (over : List Over)
      → IsFirstStayingWithoutRoom old_homes host vcpu rest over → IsErr result
  pub bound : (tasks : List (Option Periodic)) → AreTasksOf host tasks → IsWithinBound tasks host.cores
      → IfErr result (λ fault. fault ≡ NoMemory)
  pub planned : (plan : PlanView) → IsStayingPlan old_homes host plan
      → IfErr result (λ fault. fault ≡ NoMemory)
