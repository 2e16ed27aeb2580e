-- Where a vCPU is in the rows of two cores at one tick.
use Rattle.std.specs.Prelude.{◌≡◌, ℕ, ◌<◌, ◌≤◌, List, Some}
use Rattle.table_form.specs.Tables.Rows.{Row}
use Rattle.table_form.specs.Tables.Serves.{owner_at}

-- the vCPU is at the tick in the rows of both cores, the lower one first
pub record IsClash (rows : List Row) (v tick core other : ℕ) : Type 0 where
  pub here : owner_at rows core tick ≡ Some v
  pub there : owner_at rows other tick ≡ Some v
  pub lower : core < other

-- of these clashes the one of least tick, of those the one of least core, and of those the one of
-- least other core
pub record IsLeastClash (AmongThese : ℕ → ℕ → ℕ → ℕ → Type 0) (v tick core other : ℕ) : Type 0 where
  pub among : AmongThese v tick core other
  pub least_tick : (w x c d : ℕ) → AmongThese w x c d → tick ≤ x
  pub least_core : (w c d : ℕ) → AmongThese w tick c d → core ≤ c
  pub least_other : (w d : ℕ) → AmongThese w tick core d → other ≤ d

-- the first clash of the rows
abbrev pub IsFirstClash : List Row → ℕ → ℕ → ℕ → ℕ → Type 0
IsFirstClash rows = IsLeastClash (IsClash rows)
