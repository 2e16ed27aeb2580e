-- How far the owners in rows are found.
use Rattle.std.specs.Prelude.{◌≡◌, ℕ, Bool, List, Some, length, slice_get, slice_index_or}
use Rattle.table_form.specs.Running.Courses.{no_plan}
use Rattle.table_form.specs.Tables.Plans.{PlanView}
use Rattle.table_form.specs.Tables.Rows.{Row}
use Rattle.slice_table.specs.Owners.{AreOwnersIn, AreRowOwners}

-- the sets are those of the first n rows
pub record AreFirstSets (rows : List Row) (n : ℕ) (sets : List (List Bool)) : Type 0 where
  pub count : length sets ≡ n
  pub each : (d : ℕ) (row : Row) (set : List Bool) → slice_get rows d ≡ Some row
      → slice_get sets d ≡ Some set → AreOwnersIn row set

-- the owners are those of the first n plans
pub record AreFirstOwners (plans : List PlanView) (n : ℕ) (owners : List (List (List Bool))) : Type 0 where
  pub count : length owners ≡ n
  pub each : (k : ℕ) (sets : List (List Bool)) → slice_get owners k ≡ Some sets
      → AreRowOwners (slice_index_or plans k no_plan) sets
