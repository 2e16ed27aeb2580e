-- What vCPUs take of a round, and what is on each core.
use Rattle.std.specs.Prelude.{ℕ, ◌<◌, ◌≤◌, ◌==◌, Bool, false, if◌then◌else◌, List, Option, None, Some, sum_by, zip}
use Rattle.tab_core.specs.declared.TheConstants.{ROUND}
use Rattle.tab_core.specs.declared.periodic.Periodic.{Periodic}
use Rattle.reservation.specs.Cost.{demand}

-- what the vCPU takes of a round, which is nothing where it isn't admitted
abbrev pub task_demand : Option Periodic → ℕ
task_demand None = 0
task_demand (Some task) = demand task.cost task.period

-- the vCPU is on this core
abbrev pub is_on : ℕ → Option ℕ → Bool
is_on core None = false
is_on core (Some home) = home == core

-- the load of a core: what the vCPUs that are there take of a round together
unfoldable pub load_on : ℕ → List (Option Periodic) → List (Option ℕ) → ℕ
load_on core tasks core_of = sum_by (λ vcpu. if is_on core vcpu.1 then task_demand vcpu.0 else 0)
    (zip tasks core_of)

-- no core's load is more than a round
abbrev pub FitsEachCore : List (Option Periodic) → ℕ → List (Option ℕ) → Type 0
FitsEachCore tasks cores core_of = (core : ℕ) → core < cores → load_on core tasks core_of ≤ ROUND
