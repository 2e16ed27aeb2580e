-- Worst-fit decreasing placement of vCPUs on cores, of which some may stay where they were.
-- Source: D. S. Johnson, "Near-optimal bin packing algorithms", thesis, MIT, 1973. Here the number
-- of cores is given, and a vCPU that no core has room for is left over. That vCPUs keep their homes
-- from an earlier placement is this project's.
use Rattle.std.specs.Prelude.{◌≡◌, ℕ, suc, ◌+◌, ◌<◌, ◌⊎◌, ◌&&◌, nat_le, nat_lt, min, if◌then◌else◌, List, [], ◌∷◌, ◌++◌, Option, None, Some, Contains, length, get_or, replicate, slice_get, slice_set}
use Rattle.tab_core.specs.declared.TheConstants.{ROUND}
use Rattle.tab_core.specs.declared.periodic.Periodic.{Periodic}
use Rattle.worst_fit.specs.declared.placed.Placed.{Placed}
use Rattle.worst_fit.specs.declared.by_demand.ByDemand.{ByDemand}
use Rattle.worst_fit.specs.Order.{IsFallingOrder}

-- the least of the loads
abbrev pub least_load : List ℕ → ℕ
least_load [] = 0
least_load (load ∷ []) = load
least_load (load ∷ next ∷ loads) = min load (least_load (next ∷ loads))

-- the lowest core of least load
abbrev pub least_core : List ℕ → ℕ
least_core [] = 0
least_core (load ∷ []) = 0
least_core (load ∷ next ∷ loads) = if nat_le load (least_load (next ∷ loads)) then 0
    else suc (least_core (next ∷ loads))

-- what was placed so far: the load of each core, the core of each vCPU, and who is left over
pub record PartialPlacement : Type 0 where
  pub loads : List ℕ
  pub core_of : List (Option ℕ)
  pub left : List ℕ

-- the next vCPU goes to the core of least load if it has room there, and is left over otherwise
abbrev pub place_next : PartialPlacement → ByDemand → PartialPlacement
place_next p rank =
    if nat_le (least_load p.loads + rank.demand) ROUND
    then record {
      loads = slice_set p.loads (least_core p.loads) (least_load p.loads + rank.demand);
      core_of = slice_set p.core_of rank.vcpu (Some (least_core p.loads));
      left = p.left;
    }
    else record p { left = p.left ++ rank.vcpu ∷ [] }

-- the vCPUs of these ranks placed one after the other
unfoldable pub place_all : PartialPlacement → List ByDemand → PartialPlacement
place_all p [] = p
place_all p (rank ∷ order) = place_all (place_next p rank) order

-- empty cores, and no vCPU on any
abbrev pub nothing_placed : ℕ → ℕ → PartialPlacement
nothing_placed cores vcpus = record { loads = replicate cores 0; core_of = replicate vcpus None; left = [] }

-- the vCPUs that stay so far, and the ranks of those that move, in their order
pub record Staying : Type 0 where
  pub placed : PartialPlacement
  pub moving : List ByDemand

-- the old home of a vCPU that takes so much, if it is one of the cores and has room for it
abbrev pub home_with_room : List ℕ → ℕ → Option ℕ → Option ℕ
home_with_room loads takes None = None
home_with_room loads takes (Some home) =
    if nat_lt home (length loads) && nat_le (get_or loads home 0 + takes) ROUND then Some home else None

-- the vCPU stays at this home, or moves if there is none
abbrev pub stay_at : Staying → ByDemand → Option ℕ → Staying
stay_at s rank None = record s { moving = s.moving ++ rank ∷ [] }
stay_at s rank (Some home) = record s {
  placed = record {
    loads = slice_set s.placed.loads home (get_or s.placed.loads home 0 + rank.demand);
    core_of = slice_set s.placed.core_of rank.vcpu (Some home);
    left = s.placed.left;
  };
}

-- the next vCPU stays at its old home if that has room for it, and moves otherwise
abbrev pub stay_next : List (Option ℕ) → Staying → ByDemand → Staying
stay_next homes s rank =
    stay_at s rank (home_with_room s.placed.loads rank.demand (get_or homes rank.vcpu None))

-- the vCPUs of these ranks looked at one after the other, which stay or move
unfoldable pub stay_all : List (Option ℕ) → Staying → List ByDemand → Staying
stay_all homes s [] = s
stay_all homes s (rank ∷ order) = stay_all homes (stay_next homes s rank) order

-- which of these vCPUs stay at these old homes, from empty cores on
abbrev pub who_stays : List (Option ℕ) → ℕ → ℕ → List ByDemand → Staying
who_stays homes cores vcpus order =
    stay_all homes (record { placed = nothing_placed cores vcpus; moving = [] }) order

-- beside those that stay, the ones that move and those without an old home are placed
abbrev pub place_moving : Staying → PartialPlacement
place_moving s = place_all s.placed s.moving

-- the vCPUs of these tasks, whose old homes these are, were placed on so many cores: in falling
-- order those that stay, and then the others
pub record IsStayingPlacement (homes : List (Option ℕ)) (tasks : List (Option Periodic)) (cores : ℕ)
    (placed : Placed) : Type 0 where
  pub order : List ByDemand
  pub falling_order : IsFallingOrder tasks order
  pub core_of : placed.core_of ≡ (place_moving (who_stays homes cores (length tasks) order)).core_of
  pub left : placed.left ≡ (place_moving (who_stays homes cores (length tasks) order)).left

-- the vCPUs of these tasks were placed on so many cores, in falling order: none has an old home
abbrev pub IsPlacement : List (Option Periodic) → ℕ → Placed → Type 0
IsPlacement = IsStayingPlacement []

-- the vCPU has a task
abbrev pub IsAdmitted : List (Option Periodic) → ℕ → Type 0
IsAdmitted tasks vcpu = (task : Periodic) × (slice_get tasks vcpu ≡ Some (Some task))

-- the vCPU is on a core
abbrev pub IsPlaced : List (Option ℕ) → ℕ → Type 0
IsPlaced core_of vcpu = (core : ℕ) × (slice_get core_of vcpu ≡ Some (Some core))

-- each admitted vCPU is on one of the cores or is left over, never both, and no other vCPU does
pub record PlacesEach (tasks : List (Option Periodic)) (cores : ℕ) (placed : Placed) : Type 0 where
  pub as_many : length placed.core_of ≡ length tasks
  pub each : (vcpu : ℕ) → IsAdmitted tasks vcpu → IsPlaced placed.core_of vcpu ⊎ Contains placed.left vcpu
  pub on_core : (vcpu core : ℕ) → slice_get placed.core_of vcpu ≡ Some (Some core)
      → (core < cores) × IsAdmitted tasks vcpu × ¬ (Contains placed.left vcpu)
  pub left_over : (vcpu : ℕ) → Contains placed.left vcpu → IsAdmitted tasks vcpu
  pub once : (j k vcpu : ℕ) → slice_get placed.left j ≡ Some vcpu
      → slice_get placed.left k ≡ Some vcpu → j ≡ k
