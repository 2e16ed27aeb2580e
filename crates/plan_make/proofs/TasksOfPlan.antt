-- What a host's tasks say of its plan.
use Rattle.std.proofs.Common.{◌≡◌, ℕ, List, [], length, slice_get, sum_by, Option, Some, refl, subst, sym, inl, inr}
use Rattle.tab_core.specs.declared.periodic.Periodic.{Periodic}
use Rattle.tab_core.specs.declared.piece.Piece.{Piece}
use Rattle.period_choice.specs.Tasks.{AreTasksOf, IsFirstWithoutPeriod}
use Rattle.tab_core.specs.declared.host.Host.{Host}
use Rattle.table_form.specs.Planning.Drafts.{cost_on}
use Rattle.plan_make.specs.Inside.Allotted.{AreLaidOut}
use Rattle.period_choice.specs.declared.fault.TaskFault.{TaskFault}
use Rattle.period_choice.specs.declared.fault.TaskFault.TheVariants.{NoMemory, NoPeriod}
use Rattle.table_form.specs.Tables.Homes.{HaveHomes}
use Rattle.table_form.specs.Tables.Rows.{Row}
use Rattle.plan_make.specs.Faults.{fault_of_tasks}
use Rattle.plan_make.specs.declared.fault.PlanFault.TheVariants as plan
use Rattle.period_choice.proofs.TasksLemmas.{none_without_period}
use Rattle.plan_make.proofs.HomesLemmas.{ArePlaced, all_housed}
use Rattle.plan_make.proofs.ListMembers.{contains_none}

-- once nobody is left over each task's cost is on the cores
pub all_cost : (tasks : List (Option Periodic)) (cores : List (List Piece)) (homes : List (Option ℕ))
    → AreLaidOut tasks cores homes [] → (vcpu : ℕ) (task : Periodic) → slice_get tasks vcpu ≡ Some (Some task)
    → sum_by (cost_on vcpu) cores ≡ task.cost
all_cost tasks cores homes laid vcpu task at = elim (laid.places.each vcpu (task, at)) [
  | inl home ↦ laid.allotted.costs vcpu home.0 task home.1 at
  | inr left ↦ absurd (contains_none vcpu left)
]

-- where each vCPU has its task, of the two refusals of the choice of periods only running out of memory
-- is left
pub no_memory_for_tasks : (host : Host) (tasks : List (Option Periodic)) (fault : TaskFault)
    → AreTasksOf host tasks → ((vcpu : ℕ) → fault ≡ NoPeriod vcpu → IsFirstWithoutPeriod host vcpu) →
    fault_of_tasks fault ≡ plan.NoMemory
no_memory_for_tasks host tasks (NoPeriod vcpu) are told =
    absurd (none_without_period host tasks vcpu are (told vcpu refl))
no_memory_for_tasks host tasks NoMemory are told = refl

-- each task has a home below the count of rows
pub all_have_homes : (tasks : List (Option Periodic)) (cores : List (List Piece)) (homes : List (Option ℕ))
    (rows : List Row)
    → AreLaidOut tasks cores homes [] → length rows ≡ length cores → HaveHomes tasks homes rows
all_have_homes tasks cores homes rows laid size = all_housed tasks (length rows) homes
    (subst (λ n. ArePlaced tasks n homes []) (sym size) laid.places)
