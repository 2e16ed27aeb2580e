-- The tables of a plan: a row for each of its vCPUs, and one for each of its cores.
use Rattle.std.specs.Prelude.{ℕ, ◌*◌, ◌-◌, ◌/◌, ◌++◌, ◌==◌, ◌&&◌, nat_lt, nat_le, Bool, if◌then◌else◌, List, [], ◌∷◌, codes, decimal, Option, Some, None, slice_get}
use Rattle.std.specs.Str.{bytes_eq}
use Rattle.tab_core.specs.declared.TheConstants.{ROUND, WHOLE_PPM}
use Rattle.tab_core.specs.declared.reservation.Reservation.{Reservation}
use Rattle.tab_core.specs.declared.vcpu.Vcpu.{Vcpu}
use Rattle.tab_words.specs.Texts.{texts_below}
use Rattle.vcpu_names.specs.Names.{name_at}
use Rattle.view_doc.specs.declared.view.Stretch.{Stretch}
use Rattle.view_doc.specs.declared.view.Task.{Task}
use Rattle.view_cells.specs.Cells.{count_cell, left, millis_cell, percent_cell, right, yes_or_no}
use Rattle.view_table.specs.Given.{figure_at, given_to}
use Rattle.view_table.specs.Loads.{has_slot_on, load_of_core}
use Rattle.view_table.specs.declared.figures.Figure.{Figure}

-- ---- numbers

-- a cost in each period as parts per million of a core, rounded down; 0 where the period is 0
abbrev pub task_share : Task → ℕ
task_share t = if t.period == 0 then 0 else t.cost * WHOLE_PPM / t.period

-- ticks as parts per million of a round, rounded down
abbrev pub of_round : ℕ → ℕ
of_round ticks = ticks * WHOLE_PPM / ROUND

-- what the slots give the vCPU of a number of a core, in parts per million, rounded down
abbrev pub given_share : List Stretch → ℕ → ℕ
given_share slots v = of_round (given_to slots v)

-- what a host's vCPU of this name has reserved, if one of this name is admitted
abbrev pub asked_of : List Vcpu → List ℕ → Option Reservation
asked_of [] name = None
asked_of (vcpu ∷ vcpus) name = if bytes_eq vcpu.name name then vcpu.reservation else asked_of vcpus name

-- the share and the wait are as was promised; a wait of two rounds is without an end
abbrev pub is_promise_kept : ℕ → Reservation → ℕ → ℕ → Bool
is_promise_kept tick r share wait = nat_le r.share_ppm share
    && (nat_lt wait (2 * ROUND) && nat_le (wait * tick) r.latency_ns)

-- ---- cells

-- a wait, which has no end where it takes two rounds
abbrev pub wait_cell : ℕ → ℕ → List ℕ
wait_cell tick wait = if nat_lt wait (2 * ROUND) then millis_cell 7 (wait * tick) else right 11 (codes "endless")

-- the share that was asked for, or a dash
abbrev pub asked_cell : Option Reservation → List ℕ
asked_cell None = right 10 (codes "-")
asked_cell (Some r) = percent_cell 5 r.share_ppm

-- the latency that was promised, or a dash
abbrev pub promised_cell : Option Reservation → List ℕ
promised_cell None = right 13 (codes "-")
promised_cell (Some r) = millis_cell 9 r.latency_ns

-- whether all was kept, which is open where the tables are refused
abbrev pub kept_word : Bool → Bool → List ℕ
kept_word refused kept = if refused then codes "?" else yes_or_no kept

-- whether all was kept, or a dash
abbrev pub kept_cell : ℕ → Option Reservation → Figure → List ℕ
kept_cell tick None f = right 6 (codes "-")
kept_cell tick (Some r) f =
    right 6 (kept_word f.is_refused (is_promise_kept tick r (of_round f.given) f.wait))

-- a core where the vCPU has a slot
abbrev pub core_word : List Stretch → ℕ → ℕ → List ℕ
core_word slots v core = if has_slot_on slots v core then codes " " ++ decimal core else []

-- the cores where the vCPU has slots, which end its row
abbrev pub cores_cell : List Stretch → ℕ → ℕ → List ℕ
cores_cell slots cores v = codes " " ++ (texts_below (core_word slots v) cores ++ codes "\n")

-- ---- rows

-- the first row, which names the columns; what was asked for is there where there is a host
abbrev pub table_head : Option (List Vcpu) → List ℕ
table_head None = codes "   share %  period ms    wait ms  cores\n"
table_head (Some vcpus) =
    codes "   asked %   given %  period ms    wait ms  promised ms  kept  cores\n"

-- the cells of a vCPU's row, with its longest wait
unfoldable pub plain_cells : ℕ → ℕ → List ℕ → Task → Figure → List ℕ
plain_cells tick width name t f = left width name ++ (percent_cell 5 (of_round f.given)
    ++ (millis_cell 7 (t.period * tick) ++ wait_cell tick f.wait))

-- the cells of a vCPU's row beside what was asked for
unfoldable pub asked_cells : ℕ → ℕ → List ℕ → Task → Figure → Option Reservation → List ℕ
asked_cells tick width name t f r = left width name ++ (asked_cell r ++ (percent_cell 5 (of_round f.given)
    ++ (millis_cell 7 (t.period * tick) ++ (wait_cell tick f.wait
    ++ (promised_cell r ++ kept_cell tick r f)))))

-- the cells of a vCPU's row, with what was asked for where there is a host
abbrev pub row_cells : Option (List Vcpu) → ℕ → ℕ → List ℕ → Task → Figure → List ℕ
row_cells None tick width name t f = plain_cells tick width name t f
row_cells (Some vcpus) tick width name t f = asked_cells tick width name t f (asked_of vcpus name)

-- the row of the vCPU of a number, if it has a line in the plan
abbrev pub table_row_of : Option (List Vcpu) → Bool → ℕ → ℕ → List (List ℕ) → List Stretch → ℕ → ℕ → Option Task → List ℕ
table_row_of host refused tick width names slots cores v None = []
table_row_of host refused tick width names slots cores v (Some t) =
    row_cells host tick width (name_at names v) t (figure_at slots refused v) ++ cores_cell slots cores v

-- the row of the vCPU of a number of these tasks
abbrev pub table_row : Option (List Vcpu) → Bool → ℕ → ℕ → List (List ℕ) → List Task → List Stretch → ℕ → ℕ → List ℕ
table_row host refused tick width names tasks slots cores v =
    table_row_of host refused tick width names slots cores v (slice_get tasks v)

-- the row of a core: its load, and what is left of a round
unfoldable pub core_cells : ℕ → ℕ → List ℕ
core_cells core load = count_cell 4 core ++ (percent_cell 5 (of_round load)
    ++ (percent_cell 7 (of_round (ROUND - load)) ++ codes "\n"))

-- the row of the core of a number
abbrev pub core_row : List Stretch → ℕ → List ℕ
core_row slots core = core_cells core (load_of_core slots core)

-- the row that names the columns of cores, after an empty line
abbrev pub core_head : List ℕ
core_head = codes "\ncore    load %  headroom %\n"
