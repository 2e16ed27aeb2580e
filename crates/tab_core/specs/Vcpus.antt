-- The vCPUs of a host.
use Rattle.std.specs.Prelude.{◌≡◌, ℕ, ◌-◌, Bool, false, List, ◌++◌, Some, length, map, replicate, slice_get}
use Rattle.tab_core.specs.declared.TheConstants.{MAX_VCPUS}
use Rattle.tab_core.specs.declared.vcpu.Vcpu.{Vcpu}

-- no two of the vCPUs have one name
abbrev pub HaveDistinctNames : List Vcpu → Type 0
HaveDistinctNames vcpus = (j k : ℕ) (a b : Vcpu) → slice_get vcpus j ≡ Some a
    → slice_get vcpus k ≡ Some b → a.name ≡ b.name → j ≡ k

-- the set of the vCPUs that have the property
abbrev pub set_where : (Vcpu → Bool) → List Vcpu → List Bool
set_where has vcpus = map has vcpus ++ replicate (MAX_VCPUS - length vcpus) false

-- the set of the vCPUs that want to run as the run begins
abbrev pub runnable_at_first : List Vcpu → List Bool
runnable_at_first vcpus = set_where (λ vcpu. vcpu.runnable) vcpus

-- the set of the vCPUs that run in their slots alone
abbrev pub capped_set : List Vcpu → List Bool
capped_set vcpus = set_where (λ vcpu. vcpu.capped) vcpus
