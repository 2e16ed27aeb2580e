-- The table of a plan's vCPUs for other programs: as JSON, and as comma-separated values.
-- Source: RFC 8259 and RFC 4180, but for the line ends. Names need no escape and no quotes.
use Rattle.std.specs.Prelude.{ℕ, ◌*◌, ◌++◌, nat_lt, Bool, true, false, if◌then◌else◌, List, [], codes, decimal, length, Option, Some, None, slice_get}
use Rattle.tab_core.specs.declared.TheConstants.{ROUND}
use Rattle.tab_core.specs.declared.reservation.Reservation.{Reservation}
use Rattle.tab_core.specs.declared.vcpu.Vcpu.{Vcpu}
use Rattle.tab_words.specs.Texts.{texts_below}
use Rattle.vcpu_names.specs.Names.{name_at}
use Rattle.view_doc.specs.declared.view.Stretch.{Stretch}
use Rattle.view_doc.specs.declared.view.Task.{Task}
use Rattle.view_doc.specs.declared.view.View.{View}
use Rattle.view_cells.specs.CellTexts.{comma_before, truth_text}
use Rattle.view_table.specs.Groups.{any_below}
use Rattle.view_table.specs.Loads.{has_slot_on, load_of_core}
use Rattle.view_table.specs.Given.{figure_at, is_refused}
use Rattle.view_table.specs.Table.{asked_of, is_promise_kept, kept_word, of_round}
use Rattle.view_table.specs.declared.figures.Figure.{Figure}

-- ---- what may be missing

-- a number, or this where there is none
abbrev pub number_or : List ℕ → Option ℕ → List ℕ
number_or nothing None = nothing
number_or nothing (Some n) = decimal n

-- what a vCPU has reserved in the host of its plan, if there is one, and it is admitted there
abbrev pub asked_by : Option (List Vcpu) → List ℕ → Option Reservation
asked_by None name = None
asked_by (Some vcpus) name = asked_of vcpus name

-- the share that a vCPU has reserved, in parts per million, if it has
abbrev pub share_or : Option Reservation → Option ℕ
share_or None = None
share_or (Some r) = Some r.share_ppm

-- the latency that a vCPU has reserved, in nanoseconds, if it has
abbrev pub latency_or : Option Reservation → Option ℕ
latency_or None = None
latency_or (Some r) = Some r.latency_ns

-- a wait in nanoseconds, if it has an end
abbrev pub wait_or : ℕ → ℕ → Option ℕ
wait_or tick wait = if nat_lt wait (2 * ROUND) then Some (wait * tick) else None

-- whether all was kept, in JSON, which is open where the tables are refused
abbrev pub kept_value : Bool → Bool → List ℕ
kept_value refused kept = if refused then codes "null" else truth_text kept

-- whether all that was promised is kept, in JSON; null where nothing was promised, or the tables are refused
abbrev pub json_kept : ℕ → Option Reservation → Figure → List ℕ
json_kept tick None f = codes "null"
json_kept tick (Some r) f = kept_value f.is_refused (is_promise_kept tick r (of_round f.given) f.wait)

-- whether all that was promised is kept, in a column; nothing where nothing was promised
abbrev pub csv_kept : ℕ → Option Reservation → Figure → List ℕ
csv_kept tick None f = []
csv_kept tick (Some r) f = kept_word f.is_refused (is_promise_kept tick r (of_round f.given) f.wait)

-- ---- the cores of a vCPU

-- a core where the vCPU has a slot, with this before it unless it is the first of them
abbrev pub part_before : List ℕ → Bool → List ℕ
part_before between true = between
part_before between false = []

-- the number of a core where the vCPU has a slot, with this before it unless it is the first of them
abbrev pub core_data : List ℕ → List Stretch → ℕ → ℕ → List ℕ
core_data between slots v core = if has_slot_on slots v core
    then part_before between (any_below (has_slot_on slots v) core) ++ decimal core else []

-- ---- JSON

-- a vCPU's name, and its share as asked for and as given
unfoldable pub json_shares : List ℕ → Option Reservation → Figure → List ℕ
json_shares name asked f = codes "{\"name\":\"" ++ (name
    ++ (codes "\",\"asked_ppm\":" ++ (number_or (codes "null") (share_or asked)
    ++ (codes ",\"given_ppm\":" ++ (decimal (of_round f.given) ++ codes ",")))))

-- a vCPU's period, its longest wait, and the latency that it was promised, in nanoseconds
unfoldable pub json_times : ℕ → Option Reservation → Task → ℕ → List ℕ
json_times tick asked t wait = codes "\"period_ns\":" ++ (decimal (t.period * tick)
    ++ (codes ",\"wait_ns\":" ++ (number_or (codes "null") (wait_or tick wait)
    ++ (codes ",\"promised_ns\":" ++ (number_or (codes "null") (latency_or asked) ++ codes ",")))))

-- whether a vCPU has what it was promised, and its home
unfoldable pub json_home : ℕ → Option Reservation → Task → Figure → List ℕ
json_home tick asked t f = codes "\"kept\":" ++ (json_kept tick asked f
    ++ (codes ",\"home\":" ++ (decimal t.home ++ codes ",\"cores\":[")))

-- a vCPU's object up to its cores
abbrev pub json_facts : ℕ → List ℕ → Option Reservation → Task → Figure → List ℕ
json_facts tick name asked t f = json_shares name asked f
    ++ (json_times tick asked t f.wait ++ json_home tick asked t f)

-- the object of the vCPU of a number, if the plan has a line for it
abbrev pub vcpu_json : Option (List Vcpu) → Bool → ℕ → List (List ℕ) → List Stretch → ℕ → ℕ → Option Task → List ℕ
vcpu_json host refused tick names slots cores v None = []
vcpu_json host refused tick names slots cores v (Some t) = comma_before v
    ++ (json_facts tick (name_at names v) (asked_by host (name_at names v)) t (figure_at slots refused v)
    ++ (texts_below (core_data (codes ",") slots v) cores ++ codes "]}"))

-- the object of the vCPU of a number of a view
abbrev pub json_row : Option (List Vcpu) → Bool → ℕ → View → ℕ → List ℕ
json_row host refused tick view v = vcpu_json host refused tick view.names.items view.slots.items view.cores v
    (slice_get view.tasks.items v)

-- the load of a core, in parts per million of a round
abbrev pub load_data : List Stretch → ℕ → List ℕ
load_data slots core = comma_before core ++ decimal (of_round (load_of_core slots core))

-- the beginning of the text, up to the vCPUs
unfoldable pub table_json_begin : ℕ → List ℕ
table_json_begin tick = codes "{\"form\":1,\"tick_ns\":" ++ (decimal tick ++ codes ",\"vcpus\":[")

-- what is between the vCPUs and the loads
abbrev pub json_loads_begin : List ℕ
json_loads_begin = codes "],\"load_ppm\":["

-- the end of the text, which has the line by which `tableau check` refuses the tables
unfoldable pub json_refusal : List ℕ → List ℕ
json_refusal refusal = codes "],\"refused\":\"" ++ (refusal ++ codes "\"}\n")

-- the end of the text, after the loads
abbrev pub json_end : List ℕ → List ℕ
json_end refusal = if is_refused refusal then json_refusal refusal else codes "]}\n"

-- the vCPUs of a plan, and the loads of its cores
abbrev pub table_json : Option (List Vcpu) → List ℕ → ℕ → View → List ℕ
table_json host refusal tick view = table_json_begin tick
    ++ (texts_below (json_row host (is_refused refusal) tick view) (length view.tasks.items) ++ (json_loads_begin
    ++ (texts_below (load_data view.slots.items) view.cores ++ json_end refusal)))

-- ---- comma-separated values

-- a vCPU's name, and its share as asked for and as given
unfoldable pub csv_shares : List ℕ → Option Reservation → Figure → List ℕ
csv_shares name asked f = name ++ (codes "," ++ (number_or [] (share_or asked)
    ++ (codes "," ++ (decimal (of_round f.given) ++ codes ","))))

-- a vCPU's period, its longest wait, and the latency that it was promised, in nanoseconds
unfoldable pub csv_times : ℕ → Option Reservation → Task → ℕ → List ℕ
csv_times tick asked t wait = decimal (t.period * tick) ++ (codes "," ++ (number_or [] (wait_or tick wait)
    ++ (codes "," ++ (number_or [] (latency_or asked) ++ codes ","))))

-- whether a vCPU has what it was promised, and its home
unfoldable pub csv_home : ℕ → Option Reservation → Task → Figure → List ℕ
csv_home tick asked t f = csv_kept tick asked f
    ++ (codes "," ++ (decimal t.home ++ codes ","))

-- a vCPU's row up to its cores
abbrev pub csv_facts : ℕ → List ℕ → Option Reservation → Task → Figure → List ℕ
csv_facts tick name asked t f = csv_shares name asked f
    ++ (csv_times tick asked t f.wait ++ csv_home tick asked t f)

-- the row of the vCPU of a number, if the plan has a line for it
abbrev pub vcpu_csv : Option (List Vcpu) → Bool → ℕ → List (List ℕ) → List Stretch → ℕ → ℕ → Option Task → List ℕ
vcpu_csv host refused tick names slots cores v None = []
vcpu_csv host refused tick names slots cores v (Some t) =
    csv_facts tick (name_at names v) (asked_by host (name_at names v)) t (figure_at slots refused v)
    ++ (texts_below (core_data (codes " ") slots v) cores ++ codes "\n")

-- the row of the vCPU of a number of a view
abbrev pub csv_row : Option (List Vcpu) → Bool → ℕ → View → ℕ → List ℕ
csv_row host refused tick view v = vcpu_csv host refused tick view.names.items view.slots.items view.cores v
    (slice_get view.tasks.items v)

-- the names of the columns
abbrev pub table_csv_head : List ℕ
table_csv_head = codes "vcpu,asked_ppm,given_ppm,period_ns,wait_ns,promised_ns,kept,home,cores\n"

-- the vCPUs of a plan
abbrev pub table_csv : Option (List Vcpu) → Bool → ℕ → View → List ℕ
table_csv host refused tick view = table_csv_head
    ++ texts_below (csv_row host refused tick view) (length view.tasks.items)
