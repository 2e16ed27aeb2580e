-- The order in which vCPUs are placed: by falling demand, and at ties by number.
use Rattle.std.specs.Prelude.{ℕ, ◌+◌, List, [], ◌∷◌, Option, None, Some, IsPermutation, IsSorted}
use Rattle.std.specs.Ordering.{nat_cmp, ordering_then}
use Rattle.std.specs.declared.cmp.Ordering.{Ordering}
use Rattle.tab_core.specs.declared.periodic.Periodic.{Periodic}
use Rattle.reservation.specs.Cost.{demand}
use Rattle.worst_fit.specs.declared.by_demand.ByDemand.{ByDemand}

-- each admitted vCPU with what it takes of a round, where the first task is that of this number
unfoldable pub ranks_from : ℕ → List (Option Periodic) → List ByDemand
ranks_from number [] = []
ranks_from number (None ∷ tasks) = ranks_from (number + 1) tasks
ranks_from number (Some task ∷ tasks) =
    record { demand = demand task.cost task.period; vcpu = number } ∷ ranks_from (number + 1) tasks

-- more demand comes first, and at ties the lower number
abbrev pub by_falling_demand : ByDemand → ByDemand → Ordering
by_falling_demand a b = ordering_then (nat_cmp b.demand a.demand) (nat_cmp a.vcpu b.vcpu)

-- the admitted vCPUs in that order
pub record IsFallingOrder (tasks : List (Option Periodic)) (order : List ByDemand) : Type 0 where
  pub admitted : IsPermutation (ranks_from 0 tasks) order
  pub falls : IsSorted by_falling_demand order
