-- Where a vCPU gets less than its cost in one of its periods.
use Rattle.std.specs.Prelude.{◌≡◌, ℕ, ◌+◌, ◌*◌, ◌/◌, ◌<◌, ◌≤◌, List, Option, Some, slice_get}
use Rattle.tab_core.specs.declared.TheConstants.{ROUND}
use Rattle.tab_core.specs.declared.periodic.Periodic.{Periodic}
use Rattle.table_form.specs.Tables.Rows.{Row}
use Rattle.table_form.specs.Tables.Serves.{supply}

-- in its period of this number the rows give the vCPU `got` ticks, less than the `cost` of its task
pub record IsShort (tasks : List (Option Periodic)) (rows : List Row)
    (v period_no got cost : ℕ) : Type 0 where
  pub task : Periodic
  pub at : slice_get tasks v ≡ Some (Some task)
  pub in_round : period_no < ROUND / task.period
  pub got_is : got ≡ supply v rows (period_no * task.period) ((period_no + 1) * task.period)
  pub cost_is : cost ≡ task.cost
  pub less : got < cost

-- the lowest vCPU that falls short, and its first such period
pub record IsFirstShort (tasks : List (Option Periodic)) (rows : List Row)
    (v period_no got cost : ℕ) : Type 0 where
  pub short : IsShort tasks rows v period_no got cost
  pub least_vcpu : (w k g c : ℕ) → IsShort tasks rows w k g c → v ≤ w
  pub least_period : (k g c : ℕ) → IsShort tasks rows v k g c → period_no ≤ k
