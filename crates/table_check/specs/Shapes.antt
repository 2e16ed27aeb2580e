-- The rows that segments stand for as they were read, and where segments make no row.
use Rattle.std.specs.Prelude.{◌≡◌, ℕ, ◌<◌, true, List, Option, Some, None, All, map, slice_get}
use Rattle.std.specs.Option.{ForSome}
use Rattle.tab_core.specs.declared.periodic.Periodic.{Periodic}
use Rattle.table_form.specs.Tables.Rows.{Row, bad_place, cells_from}
use Rattle.table_form.specs.Tables.Serves.{has_task}
use Rattle.table_form.specs.declared.segment.Segment.{Segment}

-- the row of each core
abbrev pub rows_of : List (List Segment) → List Row
rows_of raw = map (cells_from 0) raw

-- the place of the first bad end, if there are segments and they make no row
abbrev pub bad_in : Option (List Segment) → Option ℕ
bad_in None = None
bad_in (Some segments) = bad_place 0 segments

-- the place of the core's first bad end, if its segments make no row
abbrev pub bad_at : List (List Segment) → ℕ → Option ℕ
bad_at raw core = bad_in (slice_get raw core)

-- the segments of each core make a row
abbrev pub HaveGoodShapes : List (List Segment) → Type 0
HaveGoodShapes raw = (core : ℕ) → bad_at raw core ≡ None

-- the lowest core whose segments make no row, and the place of its first bad end
pub record IsFirstBadShape (raw : List (List Segment)) (core place : ℕ) : Type 0 where
  pub bad : bad_at raw core ≡ Some place
  pub lowest : (lower : ℕ) → lower < core → bad_at raw lower ≡ None

-- each segment is idle or of a vCPU that has a task
abbrev pub AreOfTasks : List (Option Periodic) → List Segment → Type 0
AreOfTasks tasks segments = All (λ s. ForSome s.owner (λ v. has_task tasks v ≡ true)) segments

-- each segment of each core is idle or of a vCPU that has a task
abbrev pub AreOwnedByTasks : List (Option Periodic) → List (List Segment) → Type 0
AreOwnedByTasks tasks raw = All (AreOfTasks tasks) raw
