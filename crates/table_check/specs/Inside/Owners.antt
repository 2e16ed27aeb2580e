-- Sets of the vCPUs that are in the rows.
use Rattle.std.specs.Prelude.{◌≡◌, ℕ, Bool, IsTrue, List, Some, slice_get}
use Rattle.tab_core.specs.VcpuSets.{has_vcpu}
use Rattle.table_form.specs.Tables.Rows.{Row}
use Rattle.table_form.specs.Tables.Serves.{owner_at}

-- the set has each vCPU that is in the row
abbrev pub HasOwners : Row → List Bool → Type 0
HasOwners row set = (v x : ℕ) → slice_get row x ≡ Some (Some v) → IsTrue (has_vcpu set v)

-- each set, by core number, has each vCPU that is in the core's row
abbrev pub HaveOwners : List Row → List (List Bool) → Type 0
HaveOwners rows sets = (core v x : ℕ) (set : List Bool) → slice_get sets core ≡ Some set
    → owner_at rows core x ≡ Some v → IsTrue (has_vcpu set v)
