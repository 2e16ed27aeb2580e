-- What is worked out of a plan before its tables are written.
use Rattle.std.specs.Prelude.{◌≡◌, ℕ, ◌+◌, ◌*◌, ◌<◌, Bool, false, List, length, slice_index, slice_index_or}
use Rattle.tab_core.specs.declared.TheConstants.{MAX_CORES}
use Rattle.view_doc.specs.declared.view.Stretch.{Stretch}
use Rattle.view_doc.specs.declared.view.View.{View}
use Rattle.view_table.specs.Given.{given_to}
use Rattle.view_table.specs.Loads.{has_slot_on}
use Rattle.view_table.specs.Waits.{EndsAt, wait_of}
use Rattle.view_table.specs.declared.figures.Figures.{Figures}

-- a row for each vCPU below the count, which says of each core whether the vCPU has a slot there
pub record AreStands (slots : List Stretch) (count : ℕ) (grid : List Bool) : Type 0 where
  pub size : length grid ≡ count * MAX_CORES
  pub cells : (v core : ℕ) → v < count → core < MAX_CORES
      → slice_index_or grid (v * MAX_CORES + core) false ≡ has_slot_on slots v core

-- the longest wait of each vCPU below the count
pub record AreWaits (slots : List Stretch) (count : ℕ) (waits : List ℕ) : Type 0 where
  pub size : length waits ≡ count
  pub each : (v : ℕ) → v < count → slice_index waits v ≡ wait_of slots v

-- a tick at which the longest wait of each vCPU below the count ends
pub record AreWaitMarks (slots : List Stretch) (count : ℕ) (marks : List ℕ) : Type 0 where
  pub size : length marks ≡ count
  pub each : (v : ℕ) → v < count → EndsAt slots v (wait_of slots v) (slice_index marks v)

-- the ticks in a round of the slots of each vCPU below the count
pub record AreGiven (slots : List Stretch) (count : ℕ) (given : List ℕ) : Type 0 where
  pub size : length given ≡ count
  pub each : (v : ℕ) → v < count → slice_index given v ≡ given_to slots v

-- the figures of the vCPUs that a plan has lines for
pub record AreFigures (view : View) (figures : Figures) : Type 0 where
  pub waits : AreWaits view.slots.items (length view.tasks.items) figures.waits.items
  pub marks : AreWaitMarks view.slots.items (length view.tasks.items) figures.marks.items
  pub stands : AreStands view.slots.items (length view.tasks.items) figures.stands.items
  pub given : AreGiven view.slots.items (length view.tasks.items) figures.given.items
