-- The shelf over the cells of a book.
use Rattle.std.specs.Prelude.{◌≡◌, ◌≢◌, ℕ, suc, ◌+◌, ◌<◌, ◌≤◌, Bool, true, false, List, [], ◌∷◌, Option, None, Some, length, slice_get, slice_index_or}
use Rattle.std.specs.declared.alloc.Global.{Global}
use Rattle.once_cell.specs.Once.{cell_name}
use Rattle.tab_io.specs.FaultCounts.{Rose}
use Rattle.tab_core.specs.declared.TheConstants.{MAX_CHANGES}
use Rattle.live_plan.specs.declared.cell_shelf.CellShelf.{CellShelf}
use Rattle.live_plan.specs.declared.cell_shelf.Slot.{Slot}
use Rattle.live_plan.specs.Books.{IsMadeFor, LiveView}
use Rattle.live_plan.specs.Finding.{is_stopped}
use Rattle.live_plan.specs.Mades.{MadeView}
use Rattle.live_plan.specs.Shelves.{ShelfView}

-- what was seen in the cell, where that is known to be for the change
abbrev pub matched : Bool → Option MadeView → Option MadeView
matched true known = known
matched false known = None

abbrev pub known_in : Option Slot → Option MadeView
known_in None = None
known_in (Some slot) = matched slot.matches slot.note.known

-- what was seen in the cell, whether it is for the change or not
abbrev pub seen_in : Option Slot → Option MadeView
seen_in None = None
seen_in (Some slot) = slot.note.known

abbrev pub missed_in : Option Slot → ℕ
missed_in None = 0
missed_in (Some slot) = slot.missed

abbrev pub cell_state : CellShelf → ShelfView
cell_state shelf = record {
  known = λ c. known_in (slice_index_or shelf.slots c None);
  misses = λ c. missed_in (slice_index_or shelf.slots c None);
}

-- what was seen is a value for change c of the book
pub record IsSeenFor (b : LiveView) (c : ℕ) (seen : Option MadeView) : Type 0 where
  pub made : MadeView
  pub seen_is : seen ≡ Some made
  pub for_it : IsMadeFor b c made

-- the slot is of the cell of change c, and what matches is for that change
pub record IsSlotOf (b : LiveView) (c : ℕ) (slot : Slot) : Type 0 where
  pub cell : (cell : Global × ℕ) → slice_get b.cells c ≡ Some cell → slot.note.cell ≡ cell_name cell
  pub matches : slot.matches ≡ true → IsSeenFor b c slot.note.known

-- each slot is of the cell of its change, and where there is none there is no such change
abbrev pub IsSlotAt : LiveView → ℕ → Option Slot → Type 0
IsSlotAt b c None = length b.changes ≤ c
IsSlotAt b c (Some slot) = IsSlotOf b c slot

-- a value was seen in the slot's cell, which holds it for good
pub record IsFull (slot : Option Slot) : Type 0 where
  pub made : MadeView
  pub seen : seen_in slot ≡ Some made

-- the slots are of the book's cells, and each change whose value was handed over has a full cell
pub record IsCellShelfOf (b : LiveView) (shelf : CellShelf) : Type 0 where
  pub count : length shelf.slots ≡ 15
  pub few : length b.changes ≤ MAX_CHANGES
  pub each : (c : ℕ) (slot : Option Slot) → slice_get shelf.slots c ≡ Some slot → IsSlotAt b c slot
  pub full : (c : ℕ) → c < shelf.puts → IsFull (slice_index_or shelf.slots c None)

-- a slot for change c, if there is one, that knows nothing
abbrev pub IsNewSlot : LiveView → ℕ → Option Slot → Type 0
IsNewSlot b c None = length b.changes ≤ c
IsNewSlot b c (Some slot) = (slot.matches ≡ false) × (slot.missed ≡ 0) × IsSlotOf b c slot

-- a look into the cell: what was known is known, and its misses don't fall
pub record LooksIn (old new : Slot) : Type 0 where
  pub known : (m : MadeView) → known_in (Some old) ≡ Some m → known_in (Some new) ≡ Some m
  pub seen : (m : MadeView) → seen_in (Some old) ≡ Some m → seen_in (Some new) ≡ Some m
  pub misses : old.missed ≤ new.missed

-- A value that was handed over reached the slot's cell: it was the first there, and is known; or the cell was full
abbrev pub Reaches : Option Slot → MadeView → Bool → Type 0
Reaches slot made true = known_in slot ≡ Some made
Reaches slot made false = IsFull slot

-- The shelf was handed the value of the next change, which reached the change's cell, as the first or not. What it
-- knew it knows, and of other changes it knows nothing new
pub record Puts (s : CellShelf) (made : MadeView) (first : Bool) (t : CellShelf) : Type 0 where
  pub reaches : Reaches (slice_index_or t.slots s.puts None) made first
  pub known : (c : ℕ) (m : MadeView) → (cell_state s).known c ≡ Some m → (cell_state t).known c ≡ Some m
  pub others : (c : ℕ) → c ≢ s.puts → (cell_state t).known c ≡ (cell_state s).known c
  pub misses : (c : ℕ) → (cell_state t).misses c ≡ (cell_state s).misses c
  pub puts : t.puts ≡ s.puts + 1
  pub stopped : t.stopped ≡ is_stopped made.found

-- it missed
pub record MissedIn (old new : Slot) : Type 0 where
  pub before : known_in (Some old) ≡ None
  pub after : known_in (Some new) ≡ None
  pub rose : Rose old.missed new.missed

-- the slots are new, from change c on
abbrev pub AreNewSlots : LiveView → ℕ → List (Option Slot) → Type 0
AreNewSlots b c [] = Unit {0}
AreNewSlots b c (slot ∷ slots) = IsNewSlot b c slot × AreNewSlots b (suc c) slots
