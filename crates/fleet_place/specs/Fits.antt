-- Whether VMs fit a host together. The planner answers, and no formula beside it.
-- Source: the limits are those of a host document, and the plans, refusals and split vCPUs those of `plan_make`.
use Rattle.std.specs.Prelude.{◌≡◌, ℕ, ◌*◌, ◌<◌, ◌≤◌, List, length, map}
use Rattle.tab_core.specs.declared.TheConstants.{MAX_VCPUS, ROUND}
use Rattle.tab_core.specs.declared.host.Host.{Host}
use Rattle.sizes_doc.specs.SizedHost.{IsHostOfSizes, sizes_vcpus}
use Rattle.sizes_doc.specs.declared.size.Size.{Size}
use Rattle.size_fit.specs.Fits.{AreSplit, HasNoPlan, HasNoRoom}
use Rattle.fleet_place.specs.Held.{Held, load_of_vms, sizes_in, vcpu_count_of}
use Rattle.fleet_place.specs.declared.policy.Policy.{Policy}
use Rattle.fleet_place.specs.declared.vm.Vm.{Vm}

-- the sizes make a host of so many cores, and planning it is not refused: each vCPU has a period, there is room, and
-- where no vCPU may be split, none is
pub record IsAccepted (policy : Policy) (cores : ℕ) (sizes : List Size) : Type 0 where
  pub host : Host
  pub is : IsHostOfSizes cores policy.tick_ns sizes host
  pub planned : HasNoRoom policy.no_split host → ⊥

-- the host has so many cores and the reservations of the sizes. Its names may be any, since no plan depends on them
pub record IsLike (tick cores : ℕ) (sizes : List Size) (host : Host) : Type 0 where
  pub tick_ns : host.tick_ns ≡ tick
  pub cores_are : host.cores ≡ cores
  pub reserved : map (λ vcpu. vcpu.reservation) host.vcpus ≡ map (λ vcpu. vcpu.reservation) (sizes_vcpus sizes)

-- a host of so many cores with the reservations of the sizes has no room for them
pub record IsHostRefused (policy : Policy) (cores : ℕ) (sizes : List Size) : Type 0 where
  pub host : Host
  pub is : IsLike policy.tick_ns cores sizes host
  pub refused : HasNoRoom policy.no_split host

-- the VMs fit a host of so many cores: they are within its limits, and it has a plan with them, in which none of their
-- vCPUs is split where none may be
pub record FitsHost (policy : Policy) (cores : ℕ) (vms : List Vm) : Type 0 where
  pub load : load_of_vms vms ≤ cores * ROUND
  pub count : vcpu_count_of vms ≤ MAX_VCPUS
  pub accepted : IsAccepted policy cores (sizes_in vms)

-- why they don't: they take more than the cores have, they have more vCPUs than a host may have, or the planner
-- refuses them or would split one that mustn't be
pub data FitsNot (policy : Policy) (cores : ℕ) (vms : List Vm) : Type 0 where
  TooMuch : cores * ROUND < load_of_vms vms → FitsNot policy cores vms
  TooMany : MAX_VCPUS < vcpu_count_of vms → FitsNot policy cores vms
  Refused : IsHostRefused policy cores (sizes_in vms) → FitsNot policy cores vms

-- how many vCPUs a plan of the host splits: those that worst fit leaves over, and none if the host has no plan
pub data IsSplitCount (host : Host) (count : ℕ) : Type 0 where
  Splits : (split : List ℕ) → AreSplit host split → count ≡ length split → IsSplitCount host count
  SplitsNone : HasNoPlan host → count ≡ 0 → IsSplitCount host count

-- how many vCPUs a plan of a host with its VMs splits
pub record SplitsMany (policy : Policy) (held : Held) (count : ℕ) : Type 0 where
  pub host : Host
  pub is : IsHostOfSizes held.cores policy.tick_ns (sizes_in held.vms) host
  pub count_is : IsSplitCount host count
