-- The VMs on a host of a fleet, and what they take together.
-- Source: the words are this project's own.
use Rattle.std.specs.Prelude.{ℕ, ◌-◌, ◌*◌, if◌then◌else◌, List, map}
use Rattle.std.specs.List.{flat_map, sum_by}
use Rattle.tab_core.specs.declared.TheConstants.{ROUND}
use Rattle.sizes_doc.specs.declared.size.Size.{Size}
use Rattle.size_fit.specs.FitText.{ppm_of}
use Rattle.fleet_place.specs.declared.policy.Policy.{Policy}
use Rattle.fleet_place.specs.declared.vm.Vm.{Vm}

-- a host of so many cores, with its VMs in the order of its document
pub record Held : Type 0 where
  pub cores : ℕ
  pub vms : List Vm

-- the sizes of VMs
abbrev pub sizes_in : List Vm → List Size
sizes_in vms = map (λ vm. vm.size) vms

-- the ticks of a round that the VMs take together
abbrev pub load_of_vms : List Vm → ℕ
load_of_vms vms = sum_by (λ vm. vm.demand) vms

-- how many vCPUs the VMs have together
abbrev pub vcpu_count_of : List Vm → ℕ
vcpu_count_of vms = sum_by (λ vm. vm.size.machines * vm.size.vcpus) vms

-- the ticks of a round that a host's VMs leave
abbrev pub room_for_vms : Held → ℕ
room_for_vms held = held.cores * ROUND - load_of_vms held.vms

-- the load of a host, in parts per million of its cores, rounded down
abbrev pub load_ppm : Held → ℕ
load_ppm held = ppm_of (load_of_vms held.vms) (held.cores * ROUND)

-- what a policy goes by among the hosts that a VM fits, where the least comes first: the load if VMs are spread, or else
-- the room
unfoldable pub rank_of : Policy → Held → ℕ
rank_of policy held = if policy.spread then load_ppm held else room_for_vms held

-- the VMs of all hosts, host by host
abbrev pub all_held : List Held → List Vm
all_held hosts = flat_map (λ held. held.vms) hosts
