-- What a core's stints come to.
-- Source: the rules of this project.
use Rattle.std.specs.Prelude.{◌≡◌, ℕ, ◌-◌, ◌<◌, ◌≤◌, ◌&&◌, not, List, Option, None, Some, sum_by, slice_index, if◌then◌else◌}
use Rattle.tab_core.specs.declared.TheConstants.{MAX_VCPUS}
use Rattle.tab_core.specs.declared.stint.Stint.{Stint}
use Rattle.table_form.specs.Tables.Serves.{is_cell_of}
use Rattle.table_form.specs.Running.Choice.{is_shared}
use Rattle.table_form.specs.Running.Courses.{CourseView}
use Rattle.run_counts.specs.declared.account.CoreAccount.{CoreAccount}

-- how many ticks a stint has
abbrev pub length_of : Stint → ℕ
length_of s = s.end - s.from

-- the ticks of the stint in which the vCPU ran in its slot
abbrev pub slot_ticks : CourseView → ℕ → ℕ → Stint → ℕ
slot_ticks course c v s = if is_cell_of v s.ran && not (is_shared course c s) then length_of s else 0

-- the ticks of the stint in which the vCPU ran as the second level's pick
abbrev pub shared_ticks : CourseView → ℕ → ℕ → Stint → ℕ
shared_ticks course c v s = if is_cell_of v s.ran && is_shared course c s then length_of s else 0

-- the ticks of the stint in which the core idled
abbrev pub idle_ticks : Stint → ℕ
idle_ticks s = idle_in s.ran (length_of s)
  where
    idle_in : Option ℕ → ℕ → ℕ
    idle_in None ticks = ticks
    idle_in (Some v) ticks = 0

-- the account has the sums over the core's stints
pub record IsAccountOf (course : CourseView) (c : ℕ) (stints : List Stint) (account : CoreAccount) : Type 0 where
  pub slots : (v : ℕ) → v < MAX_VCPUS → slice_index account.slots v ≡ sum_by (slot_ticks course c v) stints
  pub shared : (v : ℕ) → v < MAX_VCPUS → slice_index account.shared v ≡ sum_by (shared_ticks course c v) stints
  pub idle : account.idle ≡ sum_by idle_ticks stints

-- no number of the account exceeds the tick
pub record IsWithin (account : CoreAccount) (tick : ℕ) : Type 0 where
  pub slots : (v : ℕ) → v < MAX_VCPUS → slice_index account.slots v ≤ tick
  pub shared : (v : ℕ) → v < MAX_VCPUS → slice_index account.shared v ≤ tick
  pub idle : account.idle ≤ tick
