-- The names of a host's vCPUs, and a map that finds a vCPU by its name.
use Rattle.std.specs.Prelude.{◌≡◌, ◌≢◌, ℕ, ◌<◌, List, [], codes, map, length, slice_index_or, Option, Some, None}
use Rattle.std.specs.BTreeMap.{BTreeMap, get_by}
use Rattle.std.specs.Cmp.Lexicographic.{slice_cmp}
use Rattle.std.specs.Ordering.{nat_cmp}
use Rattle.tab_core.specs.Name.{IsName}
use Rattle.tab_core.specs.declared.vcpu.Vcpu.{Vcpu}
use denote.Ref.{Bor}

-- the names, by the vCPUs' numbers
abbrev pub names_of : List Vcpu → List (List ℕ)
names_of vcpus = map (λ vcpu. vcpu.name) vcpus

-- the name of the vCPU of a number
abbrev pub name_at : List (List ℕ) → ℕ → List ℕ
name_at names vcpu = slice_index_or names vcpu []

-- an owner in a text: its name, or `-` for idle cells
abbrev pub owner_word : List (List ℕ) → Option ℕ → List ℕ
owner_word names None = codes "-"
owner_word names (Some vcpu) = name_at names vcpu

-- each has the form of a name
abbrev pub AreNames : List (List ℕ) → Type 0
AreNames names = (vcpu : ℕ) → vcpu < length names → IsName (name_at names vcpu)

-- no vCPU has this name
abbrev pub IsUnknown : List (List ℕ) → List ℕ → Type 0
IsUnknown names name = (vcpu : ℕ) → vcpu < length names → name_at names vcpu ≢ name

-- the number that a map has at a name
abbrev pub number_at : BTreeMap (Bor (List ℕ)) ℕ → List ℕ → Option ℕ
number_at numbers name = get_by (λ held. slice_cmp nat_cmp name held.now) numbers

-- the map has the numbers of these names and no other
pub record HasNumbers (names : List (List ℕ)) (numbers : BTreeMap (Bor (List ℕ)) ℕ) : Type 0 where
  pub known : (name : List ℕ) (vcpu : ℕ) → number_at numbers name ≡ Some vcpu
      → (vcpu < length names) × (name_at names vcpu ≡ name) × IsName name
  pub every : (name : List ℕ) → number_at numbers name ≡ None → IsUnknown names name
