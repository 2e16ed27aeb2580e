-- A core's slice tables, one for each plan of a course.
-- Source: as for one table, in Slices.
use Rattle.std.specs.Prelude.{◌≡◌, ℕ, List, Some, length, slice_get, slice_index_or}
use Rattle.table_form.specs.Running.Courses.{CourseView, no_plan}
use Rattle.slice_table.specs.declared.full_span.FullSpan.{FullSpan}
use Rattle.slice_table.specs.Slices.{IsTableOf}

-- the tables are those of core c, one for each plan of the course
pub record AreSlicesOf (course : CourseView) (c : ℕ) (tables : List (List FullSpan)) : Type 0 where
  pub count : length tables ≡ length course.plans
  pub each : (k : ℕ) (table : List FullSpan) → slice_get tables k ≡ Some table
      → IsTableOf (slice_index_or course.plans k no_plan) c table
