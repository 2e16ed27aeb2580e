-- The sizes that the planner refused beside the VMs of a host.
use Rattle.std.specs.Prelude.{◌≡◌, ℕ, ◌++◌, [], ◌∷◌, List, Option, Some, length, slice_get}
use Rattle.sizes_doc.specs.declared.size.Size.{Size}
use Rattle.fleet_place.specs.Deals.{Deal}
use Rattle.fleet_place.specs.Fits.{IsHostRefused}
use Rattle.fleet_place.specs.Held.{Held, sizes_in}
use Rattle.fleet_place.specs.declared.policy.Policy.{Policy}
use Rattle.fleet_place.specs.declared.vm.Vm.{Vm}

-- sizes that ask for the same reservations
pub record IsAlike (one other : Size) : Type 0 where
  pub machines : one.machines ≡ other.machines
  pub vcpus : one.vcpus ≡ other.vcpus
  pub reservation : one.reservation ≡ other.reservation

-- the planner refuses the size beside the VMs of the host
abbrev pub IsRefusedBeside : Policy → Held → Size → Type 0
IsRefusedBeside policy held size = IsHostRefused policy held.cores (sizes_in held.vms ++ size ∷ [])

-- each size that is kept was refused beside the VMs of the host at its place
abbrev pub KnowsRefusals : Policy → List Held → List (Option Size) → Type 0
KnowsRefusals policy hosts refused = (k : ℕ) (held : Held) (size : Size) → slice_get hosts k ≡ Some held
    → slice_get refused k ≡ Some (Some size) → IsRefusedBeside policy held size

-- one VM is dealt, which leads from these hosts and left-over VMs to those, and what is known of refusals holds still
pub record IsTurn (policy : Policy) (vm : Vm) (hosts : List Held) (left : List Vm) (hosts' : List Held) (left' : List Vm)
    (refused : List (Option Size)) : Type 0 where
  pub many : length refused ≡ length hosts'
  pub knows : KnowsRefusals policy hosts' refused
  pub dealt : (start : List Held) (order : List Vm) → Deal policy start order hosts left
      → Deal policy start (order ++ vm ∷ []) hosts' left'
