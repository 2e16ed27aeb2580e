-- Nobody moves without need.
-- Source: the rule is this project's. A vCPU that moves costs its caches and its memory's nearness,
-- so one that has an old home stays there if the demands allow it.
use Rattle.std.specs.Prelude.{◌≡◌, ℕ, ◌<◌, ◌≤◌, ◌⊎◌, if◌then◌else◌, List, [], ◌∷◌, ◌++◌, Option, None, Some, get_or, slice_get, sum_by}
use Rattle.tab_core.specs.declared.TheConstants.{ROUND}
use Rattle.tab_core.specs.declared.periodic.Periodic.{Periodic}
use Rattle.worst_fit.specs.Load.{is_on, load_on}
use Rattle.worst_fit.specs.Order.{IsFallingOrder}
use Rattle.worst_fit.specs.Placement.{IsAdmitted}
use Rattle.worst_fit.specs.declared.by_demand.ByDemand.{ByDemand}

-- what the vCPUs of these ranks whose old home is this core take of a round together
unfoldable pub staying_demand : List (Option ℕ) → ℕ → List ByDemand → ℕ
staying_demand homes core ranks =
    sum_by (λ rank. if is_on core (get_or homes rank.vcpu None) then rank.demand else 0) ranks

-- a vCPU leaves its old home only where those that were taken before it and it would overload it
pub record LeaveForNeed (homes : List (Option ℕ)) (tasks : List (Option Periodic)) (cores : ℕ)
    (core_of : List (Option ℕ)) : Type 0 where
  pub order : List ByDemand
  pub falling_order : IsFallingOrder tasks order
  pub need : (before after : List ByDemand) (rank : ByDemand) (core : ℕ) → order ≡ before ++ rank ∷ after
      → slice_get homes rank.vcpu ≡ Some (Some core) → core < cores
      → (slice_get core_of rank.vcpu ≡ Some (Some core))
      ⊎ (ROUND < staying_demand homes core (before ++ rank ∷ []))

-- where the vCPUs whose old home is a core take at most a round of it together, each of them stays
abbrev pub StayWhereAllFit : List (Option ℕ) → List (Option Periodic) → ℕ → List (Option ℕ) → Type 0
StayWhereAllFit homes tasks cores core_of = (core : ℕ) → core < cores → load_on core tasks homes ≤ ROUND
    → (vcpu : ℕ) → IsAdmitted tasks vcpu → slice_get homes vcpu ≡ Some (Some core)
    → slice_get core_of vcpu ≡ Some (Some core)
