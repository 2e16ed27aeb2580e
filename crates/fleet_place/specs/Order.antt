-- The order in which VMs are dealt to hosts: by falling demand, and at ties by number.
use Rattle.std.specs.Prelude.{◌≡◌, ℕ, ◌+◌, ◌≤◌, List, IsPermutation, Some, slice_get}
use Rattle.fleet_place.specs.declared.vm.Vm.{Vm}

-- the VM comes no later than the other: it takes more, or as much and has no higher number
pub record IsNoLater (first second : Vm) : Type 0 where
  pub falls : second.demand ≤ first.demand
  pub ties : first.demand ≡ second.demand → first.number ≤ second.number

-- the VMs in their order: by falling demand, ties to the lower number
pub record IsFallingVmOrder (vms order : List Vm) : Type 0 where
  pub same : IsPermutation vms order
  pub next : (k : ℕ) (first second : Vm) → slice_get order k ≡ Some first → slice_get order (k + 1) ≡ Some second
      → IsNoLater first second
