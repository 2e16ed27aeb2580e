-- How VMs are dealt to hosts.
-- Source: best-fit decreasing of D. S. Johnson, "Near-optimal bin packing algorithms", thesis, MIT, 1973, where the
-- number of hosts is given, a VM that fits none is left over, and whether it fits the planner says. That VMs may be spread,
-- each to the host of least load, is worst-fit decreasing of the same thesis.
use Rattle.std.specs.Prelude.{◌≡◌, ℕ, ◌<◌, ◌≤◌, ◌⊎◌, List, [], ◌∷◌, ◌++◌, Some, slice_get, slice_set}
use Rattle.fleet_place.specs.Fits.{FitsHost, FitsNot}
use Rattle.fleet_place.specs.Held.{Held, rank_of}
use Rattle.fleet_place.specs.Order.{IsFallingVmOrder}
use Rattle.fleet_place.specs.Stays.{Stay}
use Rattle.fleet_place.specs.declared.group.Group.{Group}
use Rattle.fleet_place.specs.declared.policy.Policy.{Policy}
use Rattle.fleet_place.specs.declared.vm.Vm.{Vm}

-- the VMs of a host with one more
abbrev pub with_vm : Held → Vm → Held
with_vm held vm = record { cores = held.cores; vms = held.vms ++ vm ∷ [] }

-- the VM fits the host beside the VMs that are there
abbrev pub Joins : Policy → Held → Vm → Type 0
Joins policy held vm = FitsHost policy held.cores (held.vms ++ vm ∷ [])

-- the VM doesn't fit the host beside the VMs that are there
abbrev pub JoinsNot : Policy → Held → Vm → Type 0
JoinsNot policy held vm = FitsNot policy held.cores (held.vms ++ vm ∷ [])

-- of the hosts that the VM fits this one has the least rank, and of those the lowest number
pub record IsBestHost (policy : Policy) (hosts : List Held) (vm : Vm) (number : ℕ) (held : Held) : Type 0 where
  pub at : slice_get hosts number ≡ Some held
  pub fits : Joins policy held vm
  pub least : (k : ℕ) (other : Held) → slice_get hosts k ≡ Some other
      → JoinsNot policy other vm ⊎ (rank_of policy held ≤ rank_of policy other)
  pub lowest : (k : ℕ) (other : Held) → k < number → slice_get hosts k ≡ Some other
      → JoinsNot policy other vm ⊎ (rank_of policy held < rank_of policy other)

-- the VM fits no host
abbrev pub JoinsNone : Policy → List Held → Vm → Type 0
JoinsNone policy hosts vm = (k : ℕ) (other : Held) → slice_get hosts k ≡ Some other → JoinsNot policy other vm

-- the VMs of this order are dealt one after the other: each goes to the best host that it fits, and is left over
-- if it fits none
pub data Deal (policy : Policy) (start : List Held) : List Vm → List Held → List Vm → Type 0 where
  NoVm : Deal policy start [] start []
  Joined : (order left : List Vm) (hosts : List Held) (vm : Vm) (number : ℕ) (held : Held)
      → Deal policy start order hosts left → IsBestHost policy hosts vm number held
      → Deal policy start (order ++ vm ∷ []) (slice_set hosts number (with_vm held vm)) left
  LeftOver : (order left : List Vm) (hosts : List Held) (vm : Vm)
      → Deal policy start order hosts left → JoinsNone policy hosts vm
      → Deal policy start (order ++ vm ∷ []) hosts (left ++ vm ∷ [])

-- of the VMs of groups each stays on its host if it can; those that move, and the others, are dealt by falling demand
pub record IsPlacing (policy : Policy) (groups : List Group) (others : List Vm) (hosts : List Held) (left : List Vm) : Type 0 where
  pub start : List Held
  pub moved : List Vm
  pub stay : Stay policy groups start moved
  pub order : List Vm
  pub falling : IsFallingVmOrder (moved ++ others) order
  pub deal : Deal policy start order hosts left
