-- How far a core's slice tables are made.
use Rattle.std.specs.Prelude.{◌≡◌, ℕ, List, Some, length, slice_get, slice_index_or}
use Rattle.table_form.specs.Running.Courses.{no_plan}
use Rattle.table_form.specs.Tables.Plans.{PlanView}
use Rattle.slice_table.specs.declared.full_span.FullSpan.{FullSpan}
use Rattle.slice_table.specs.Slices.{IsTableOf}

-- the tables are those of the first n plans
pub record AreFirstTables (plans : List PlanView) (c n : ℕ) (tables : List (List FullSpan)) : Type 0 where
  pub count : length tables ≡ n
  pub each : (k : ℕ) (table : List FullSpan) → slice_get tables k ≡ Some table
      → IsTableOf (slice_index_or plans k no_plan) c table
