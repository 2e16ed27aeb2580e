-- Which vCPUs own time in which row of a plan.
-- Source: the rules of this project.
use Rattle.std.specs.Prelude.{◌≡◌, ◌↔◌, ℕ, ◌<◌, Bool, IsTrue, List, Some, length, slice_get, slice_index_or}
use Rattle.tab_core.specs.declared.TheConstants.{MAX_VCPUS}
use Rattle.tab_core.specs.VcpuSets.{has_vcpu}
use Rattle.table_form.specs.Running.Courses.{CourseView, no_plan}
use Rattle.table_form.specs.Tables.Plans.{PlanView}
use Rattle.table_form.specs.Tables.Rows.{Row}

-- the set has the vCPUs that own a tick of the row
abbrev pub AreOwnersIn : Row → List Bool → Type 0
AreOwnersIn row set = (v : ℕ) → v < MAX_VCPUS
    → (IsTrue (has_vcpu set v) ↔ ((x : ℕ) × (slice_get row x ≡ Some (Some v))))

-- the sets are those of the owners in the plan's rows, one for each row
pub record AreRowOwners (plan : PlanView) (sets : List (List Bool)) : Type 0 where
  pub count : length sets ≡ length plan.rows
  pub each : (d : ℕ) (row : Row) (set : List Bool) → slice_get plan.rows d ≡ Some row
      → slice_get sets d ≡ Some set → AreOwnersIn row set

-- the owners are those of the course's plans: for each plan a set for each of its rows
pub record AreCourseOwners (course : CourseView) (owners : List (List (List Bool))) : Type 0 where
  pub count : length owners ≡ length course.plans
  pub each : (k : ℕ) (sets : List (List Bool)) → slice_get owners k ≡ Some sets
      → AreRowOwners (slice_index_or course.plans k no_plan) sets
