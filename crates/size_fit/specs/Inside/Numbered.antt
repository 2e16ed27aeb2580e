-- The names of the vCPUs of a host that is planned only to see whether it fits.
use Rattle.std.specs.Prelude.{◌≡◌, ℕ, ◌++◌, List, codes, decimal, Some, slice_get}
use Rattle.tab_core.specs.declared.vcpu.Vcpu.{Vcpu}

-- the name of the vCPU of a number
abbrev pub number_name : ℕ → List ℕ
number_name number = codes "v" ++ decimal number

-- each is named by its number
abbrev pub AreNumbered : List Vcpu → Type 0
AreNumbered vcpus = (number : ℕ) (vcpu : Vcpu) → slice_get vcpus number ≡ Some vcpu
    → vcpu.name ≡ number_name number
