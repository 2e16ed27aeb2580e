-- How much demand worst fit always places.
-- Source: J. M. López, J. L. Díaz, D. F. García, "Utilization bounds for EDF scheduling on
-- real-time multiprocessor systems", Real-Time Systems 28, 2004. There utilizations of at most u
-- fit on m processors where they sum to at most m - (m - 1) * u. Here a round has ROUND ticks.
use Rattle.std.specs.Prelude.{ℕ, ◌+◌, ◌-◌, ◌*◌, ◌≤◌, max, List, [], ◌∷◌, Option, sum_by}
use Rattle.tab_core.specs.declared.TheConstants.{ROUND}
use Rattle.tab_core.specs.declared.periodic.Periodic.{Periodic}
use Rattle.worst_fit.specs.Load.{task_demand}

-- what the vCPUs take of a round together
abbrev pub total_demand : List (Option Periodic) → ℕ
total_demand tasks = sum_by task_demand tasks

-- the most ticks of a round that one of the tasks takes
abbrev pub largest_demand : List (Option Periodic) → ℕ
largest_demand [] = 0
largest_demand (task ∷ tasks) = max (task_demand task) (largest_demand tasks)

-- together at most a round of each core, without the largest demand once for each core but one
abbrev pub IsWithinBound : List (Option Periodic) → ℕ → Type 0
IsWithinBound tasks cores = total_demand tasks + (cores - 1) * largest_demand tasks ≤ cores * ROUND
