-- On which of the first cores a vCPU has most of its cells.
use Rattle.std.specs.Prelude.{◌≡◌, ℕ, ◌<◌, ◌≤◌, nat_lt, if◌then◌else◌, List, [], Option, Some, length, slice_get, slice_index_or}
use Rattle.std.specs.Option.{option_map}
use Rattle.tab_core.specs.declared.periodic.Periodic.{Periodic}
use Rattle.tab_core.specs.declared.TheConstants.{ROUND}
use Rattle.table_form.specs.Tables.Rows.{Row}
use Rattle.table_form.specs.Tables.Serves.{cells_within}
use Rattle.wrap_table.specs.declared.homing.Most.{Most}

-- a vCPU's cells of a core's row
abbrev pub cells_on : List Row → ℕ → ℕ → ℕ
cells_on rows v c = cells_within v (slice_index_or rows c []) 0 ROUND

-- of the first cores the one with most of the vCPU's cells, of those the lowest; before any core
-- was counted it is core 0 with no cell
pub record IsMostOfFirst (rows : List Row) (v count : ℕ) (best : Most) : Type 0 where
  pub none : count ≡ 0 → (best.core ≡ 0) × (best.cells ≡ 0)
  pub within : 0 < count → best.core < count
  pub is : 0 < count → best.cells ≡ cells_on rows v best.core
  pub most : (d : ℕ) → d < count → cells_on rows v d ≤ best.cells
  pub lowest : (d : ℕ) → d < best.core → cells_on rows v d < best.cells

-- a vCPU's entry
abbrev pub most_at : List Most → ℕ → Most
most_at all v = slice_index_or all v (record { core = 0; cells = 0 })

-- after another core, which has so many of the vCPU's cells
abbrev pub with_core : Most → ℕ → ℕ → Most
with_core most cells core = if nat_lt most.cells cells then record { core = core; cells = cells } else most

-- each admitted vCPU has as its home a core of which so much is known, and no other vCPU has one
pub record AreHomesOf (tasks : List (Option Periodic)) (rows : List Row) (homes : List (Option ℕ)) : Type 0
  where
    pub as_many : length homes ≡ length tasks
    pub each : (v : ℕ) (task : Option Periodic) (home : Option ℕ) → slice_get tasks v ≡ Some task
        → slice_get homes v ≡ Some home
        → (most : Most) × IsMostOfFirst rows v (length rows) most × (home ≡ option_map (λ _. most.core) task)
