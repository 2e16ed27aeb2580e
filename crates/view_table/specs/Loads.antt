-- What a plan takes of a core, and which cores a vCPU has slots on.
use Rattle.std.specs.Prelude.{ℕ, ◌-◌, ◌==◌, ◌&&◌, Bool, true, false, if◌then◌else◌, List, min}
use Rattle.std.specs.List.{list_any, sum_by}
use Rattle.tab_core.specs.declared.TheConstants.{ROUND}
use Rattle.view_doc.specs.declared.view.Stretch.{Stretch}
use Rattle.view_doc.specs.declared.view.Use.{Use}
use Rattle.view_doc.specs.declared.view.Use.TheVariants.{Idle, Slot, Shared}
use Rattle.view_table.specs.Waits.{is_slot_of}

-- somebody has the stretch as a slot
abbrev pub is_slot : Use → Bool
is_slot Idle = false
is_slot (Slot v) = true
is_slot (Shared v) = false

-- the ticks of a segment that are a slot on this core
abbrev pub ticks_on : ℕ → Stretch → ℕ
ticks_on core s = if (s.core == core) && is_slot s.by then s.end - s.from else 0

-- the load of a core: the ticks of its slots, which are no more than a round has
abbrev pub load_of_core : List Stretch → ℕ → ℕ
load_of_core slots core = min (sum_by (ticks_on core) slots) ROUND

-- the segment is a slot of the vCPU on this core
abbrev pub stands_there : ℕ → ℕ → Stretch → Bool
stands_there v core s = is_slot_of v s.by && (s.core == core)

-- the vCPU has a slot on this core
abbrev pub has_slot_on : List Stretch → ℕ → ℕ → Bool
has_slot_on slots v core = list_any (stands_there v core) slots
