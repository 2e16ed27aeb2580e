-- The slots of a vCPU as the rows are walked over for it alone.
use Rattle.std.specs.Prelude.{◌≡◌, ◌≢◌, ℕ, ◌<◌, ◌≤◌, ◌+◌, List, Some, length, slice_index_or}
use Rattle.tab_core.specs.declared.TheConstants.{ROUND}
use Rattle.table_form.specs.declared.segment.Segment.{Segment}
use Rattle.table_form.specs.Tables.Rows.{Row}
use Rattle.table_form.specs.Tables.Serves.{owner_at}
use Rattle.run_counts.specs.declared.walk.Slot.{Slot}

-- the slot of a row, in a list by row
abbrev pub slot_at : List Slot → ℕ → Slot
slot_at slots d = slice_index_or slots d (record { begin = 0; end = 0; number = 0 })

-- from the place on, the slot is the row's next that is the vCPU's
pub record IsNext (rows : List Row) (core v place : ℕ) (slot : Slot) : Type 0 where
  pub low : place ≤ slot.begin
  pub some : slot.begin < ROUND → slot.begin < slot.end
  pub within : slot.end ≤ ROUND
  pub none : (x : ℕ) → place ≤ x → x < slot.begin → owner_at rows core x ≢ Some v
  pub all : (x : ℕ) → slot.begin ≤ x → x < slot.end → owner_at rows core x ≡ Some v

-- the segment of the number ends after the place, and the one before it doesn't
pub record HoldsPlace (segments : List Segment) (number place : ℕ) : Type 0 where
  pub there : number < length segments
  pub after : (d : Segment) → place < (slice_index_or segments number d).end
  pub ended : (k : ℕ) (d : Segment) → k + 1 ≡ number → (slice_index_or segments k d).end ≤ place
