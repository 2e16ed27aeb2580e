-- The host that sizes make.
-- Source: the names are this project's own. The numbers are what a host document takes where it names none.
use Rattle.std.specs.Prelude.{◌≡◌, ℕ, ◌+◌, ◌*◌, ◌<◌, ◌≤◌, Bool, true, false, List, ◌∷◌, ◌++◌, All, codes, decimal, flat_map, length, map, slice_get, Some}
use Rattle.std.specs.List.{range_with_len}
use Rattle.tab_core.specs.Name.{IsName}
use Rattle.tab_core.specs.Vcpus.{HaveDistinctNames}
use Rattle.tab_core.specs.declared.TheConstants.{MAX_VCPUS}
use Rattle.tab_core.specs.declared.host.Host.{Host}
use Rattle.tab_core.specs.declared.vcpu.Vcpu.{Vcpu}
use Rattle.sizes_doc.specs.declared.fault.SizesFault.{SizesFault}
use Rattle.sizes_doc.specs.declared.fault.SizesFault.TheVariants.{BadName, SameName, TooMany}
use Rattle.sizes_doc.specs.declared.size.Size.{Size}

-- the name of a VM: that of its size, for one alone, and else with its number after it, from 0
abbrev pub machine_name : Bool → List ℕ → ℕ → List ℕ
machine_name true name machine = name
machine_name false name machine = name ++ (codes "-" ++ decimal machine)

-- the name of a vCPU: that of its VM and its own number in that, from 0
abbrev pub vcpu_name : Size → ℕ → ℕ → List ℕ
vcpu_name size machine number =
    machine_name size.alone size.name.now machine ++ (codes "." ++ decimal number)

-- a vCPU of a VM of this size: admitted and runnable, and capped if its size is
abbrev pub sized_vcpu : Size → ℕ → ℕ → Vcpu
sized_vcpu size machine number = record {
  name = vcpu_name size machine number;
  reservation = Some size.reservation;
  runnable = true;
  capped = size.capped;
}

-- the vCPUs of a VM
abbrev pub machine_vcpus : Size → ℕ → List Vcpu
machine_vcpus size machine = map (sized_vcpu size machine) (range_with_len 0 size.vcpus)

-- the vCPUs of all VMs of a size
abbrev pub size_vcpus : Size → List Vcpu
size_vcpus size = flat_map (machine_vcpus size) (range_with_len 0 size.machines)

-- the vCPUs of all sizes
abbrev pub sizes_vcpus : List Size → List Vcpu
sizes_vcpus sizes = flat_map size_vcpus sizes

-- each vCPU's name is one, and no two are one name
pub record HaveGoodNames (vcpus : List Vcpu) : Type 0 where
  pub good : All (λ vcpu. IsName vcpu.name) vcpus
  pub distinct : HaveDistinctNames vcpus

-- the host of these sizes, with this tick
pub record IsHostOfSizes (cores tick : ℕ) (sizes : List Size) (host : Host) : Type 0 where
  pub tick_ns : host.tick_ns ≡ tick
  pub cores_are : host.cores ≡ cores
  pub lag : host.lag ≡ 1000
  pub sliver : host.sliver ≡ 30
  pub quantum : host.quantum ≡ 1000
  pub vcpus_are : host.vcpus ≡ sizes_vcpus sizes
  pub few : length host.vcpus ≤ MAX_VCPUS
  pub names : HaveGoodNames host.vcpus

-- a vCPU of the size has a name that isn't of the form of a name
pub record HasBadName (size : Size) : Type 0 where
  pub machine : ℕ
  pub number : ℕ
  pub low : machine < size.machines
  pub within : number < size.vcpus
  pub bad : ¬ (IsName (vcpu_name size machine number))

-- the vCPU of this number has this name
pub record IsNamed (vcpus : List Vcpu) (vcpu : ℕ) (name : List ℕ) : Type 0 where
  pub found : Vcpu
  pub is_found : slice_get vcpus vcpu ≡ Some found
  pub same : found.name ≡ name

-- the vCPU of this number has the name of an earlier one
pub record IsTwice (vcpus : List Vcpu) (vcpu : ℕ) : Type 0 where
  pub earlier : ℕ
  pub first : Vcpu
  pub second : Vcpu
  pub before : earlier < vcpu
  pub is_first : slice_get vcpus earlier ≡ Some first
  pub is_second : slice_get vcpus vcpu ≡ Some second
  pub same : first.name ≡ second.name

-- why sizes make no host
pub data HasSizesFault (sizes : List Size) : SizesFault → Type 0 where
  HasTooMany : (front : List Size) (size : Size) (back : List Size) → sizes ≡ front ++ size ∷ back
      → length (sizes_vcpus front) ≤ MAX_VCPUS
      → MAX_VCPUS < length (sizes_vcpus front) + size.machines * size.vcpus → HasSizesFault sizes (TooMany size.line)
  NamesBadly : (front : List Size) (size : Size) (back : List Size) → sizes ≡ front ++ size ∷ back
      → HasBadName size → HasSizesFault sizes (BadName size.line)
  NamesTwice : (vcpu : ℕ) → IsTwice (sizes_vcpus sizes) vcpu → HasSizesFault sizes (SameName vcpu)
