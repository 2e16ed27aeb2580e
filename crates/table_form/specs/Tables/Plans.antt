-- What a plan says, as plain lists.
use Rattle.std.specs.Prelude.{◌≡◌, ℕ, Bool, false, List, Option, Some, None, is_some, length, slice_get}
use Rattle.tab_core.specs.declared.host.Host.{Host}
use Rattle.tab_core.specs.declared.vcpu.Vcpu.{Vcpu}
use Rattle.tab_core.specs.declared.periodic.Periodic.{Periodic}
use Rattle.table_form.specs.Tables.Rows.{Row}
use Rattle.table_form.specs.Tables.Serves.{Serves, ServesExactly, Apart, OwnersHaveTasks, has_task}
use Rattle.table_form.specs.Tables.Homes.{HaveHomes}

-- each vCPU's task and home by its number, each core's row, and the vCPUs that run in their slots alone
pub record PlanView : Type 0 where
  pub tasks : List (Option Periodic)
  pub homes : List (Option ℕ)
  pub rows : List Row
  pub capped : List Bool

-- what each plan keeps
pub record IsPlan (plan : PlanView) : Type 0 where
  pub serves : Serves plan.tasks plan.rows
  pub apart : Apart plan.rows
  pub housed : HaveHomes plan.tasks plan.homes plan.rows
  pub owned : OwnersHaveTasks plan.tasks plan.rows
  pub exact : ServesExactly plan.tasks plan.capped plan.rows

-- the vCPU has a reservation
abbrev pub is_reserved : Option Vcpu → Bool
is_reserved None = false
is_reserved (Some vcpu) = is_some vcpu.reservation

-- the plan is one for this host: a task exactly for each admitted vCPU, and a row for each core
pub record IsPlanFor (host : Host) (plan : PlanView) : Type 0 where
  pub rows : length plan.rows ≡ host.cores
  pub vcpus : length plan.tasks ≡ length host.vcpus
  pub admitted : (v : ℕ) → has_task plan.tasks v ≡ is_reserved (slice_get host.vcpus v)
