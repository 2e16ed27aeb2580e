-- What the slots of a plan give each vCPU in a round.
use Rattle.std.specs.Prelude.{ℕ, ◌-◌, ◌==◌, Bool, not, if◌then◌else◌, List, length, min}
use Rattle.std.specs.List.{sum_by}
use Rattle.tab_core.specs.declared.TheConstants.{ROUND}
use Rattle.view_doc.specs.declared.view.Stretch.{Stretch}
use Rattle.view_table.specs.Waits.{is_slot_of, wait_of}
use Rattle.view_table.specs.declared.figures.Figure.{Figure}

-- the ticks of a segment that are a slot of the vCPU
abbrev pub ticks_for : ℕ → Stretch → ℕ
ticks_for v s = if is_slot_of v s.by then s.end - s.from else 0

-- the ticks of the vCPU's slots on all cores, which are no more than a round has
abbrev pub given_to : List Stretch → ℕ → ℕ
given_to slots v = min (sum_by (ticks_for v) slots) ROUND

-- tables are refused where there is a line that says why
abbrev pub is_refused : List ℕ → Bool
is_refused refusal = not (length refusal == 0)

-- the figures of the vCPU of a number, in tables that are refused or not
abbrev pub figure_at : List Stretch → Bool → ℕ → Figure
figure_at slots refused v = record { given = given_to slots v; wait = wait_of slots v; is_refused = refused }
