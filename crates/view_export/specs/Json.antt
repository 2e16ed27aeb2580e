-- A view as JSON: what it is, and for each kind of things a table whose first row names the columns.
-- Source: RFC 8259. Names need no escape.
use Rattle.std.specs.Prelude.{ℕ, Bool, true, false, ◌++◌, List, codes, decimal, flat_map, length, Option, Some, None, slice_get}
use Rattle.tab_words.specs.Texts.{texts_below}
use Rattle.vcpu_names.specs.Names.{name_at}
use Rattle.view_doc.specs.declared.view.Entry.{Entry}
use Rattle.view_doc.specs.declared.view.Stretch.{Stretch}
use Rattle.view_doc.specs.declared.view.Task.{Task}
use Rattle.view_doc.specs.declared.view.Use.{Use}
use Rattle.view_doc.specs.declared.view.Use.TheVariants.{Idle, Slot, Shared}
use Rattle.view_doc.specs.declared.view.View.{View}
use Rattle.view_export.specs.Shown.{how_text}

-- the row of a vCPU that has a reservation in the plan
unfoldable pub task_row : List ℕ → Task → List ℕ
task_row name t = codes ",\n[\"" ++ (name ++ (codes "\"," ++ (decimal t.period
    ++ (codes "," ++ (decimal t.cost ++ (codes "," ++ (decimal t.home ++ codes "]")))))))

-- the row of a vCPU that has no reservation in the plan
unfoldable pub bare_row : List ℕ → List ℕ
bare_row name = codes ",\n[\"" ++ (name ++ codes "\",null,null,null]")

-- the row of a vCPU, which may have a reservation
abbrev pub row_of : List ℕ → Option Task → List ℕ
row_of name None = bare_row name
row_of name (Some t) = task_row name t

-- the row of the vCPU of a number
abbrev pub vcpu_row : List (List ℕ) → List Task → ℕ → List ℕ
vcpu_row names tasks vcpu = row_of (name_at names vcpu) (slice_get tasks vcpu)

-- a name in quotes, and null for nobody
abbrev pub quoted_holder : List (List ℕ) → Use → List ℕ
quoted_holder names Idle = codes "null"
quoted_holder names (Slot vcpu) = codes "\"" ++ (name_at names vcpu ++ codes "\"")
quoted_holder names (Shared vcpu) = codes "\"" ++ (name_at names vcpu ++ codes "\"")

-- the beginning of a stretch's row: the core, and from where to where
unfoldable pub row_begin : Stretch → List ℕ
row_begin s = codes ",\n[" ++ (decimal s.core ++ (codes "," ++ (decimal s.from
    ++ (codes "," ++ (decimal s.end ++ codes ",")))))

-- the end of a stretch's row: how somebody has it, and its counts of events
unfoldable pub row_end : Stretch → List ℕ
row_end s = codes ",\"" ++ (how_text s.by ++ (codes "\"," ++ (decimal s.used
    ++ (codes "," ++ (decimal s.seen ++ codes "]")))))

-- the row of a stretch
abbrev pub stretch_row : List (List ℕ) → Stretch → List ℕ
stretch_row names s = row_begin s ++ (quoted_holder names s.by ++ row_end s)

-- the row of an entry
unfoldable pub entry_row : Entry → List ℕ
entry_row e = codes ",\n[" ++ (decimal e.core ++ (codes "," ++ (decimal e.round
    ++ (codes "," ++ (decimal e.count ++ codes "]")))))

-- what is shown, a plan or a run
abbrev pub kind_text : Bool → List ℕ
kind_text false = codes "plan"
kind_text true = codes "run"

-- the text up to the rows of vCPUs
unfoldable pub json_begin : ℕ → ℕ → List ℕ → List ℕ
json_begin tick cores kind = codes "{\"form\":1,\"kind\":\"" ++ (kind
    ++ (codes "\",\"tick_ns\":" ++ (decimal tick ++ (codes ",\"cores\":" ++ (decimal cores
    ++ codes ",\"vcpus\":[\n[\"name\",\"period\",\"cost\",\"home\"]")))))

-- the beginning of the table of slots, with the names of its columns
abbrev pub slot_head : List ℕ
slot_head = codes "\n],\"slots\":[\n[\"core\",\"from\",\"end\",\"vcpu\",\"how\",\"used\",\"seen\"]"

-- the beginning of the table of entries, with the names of its columns
abbrev pub entry_head : List ℕ
entry_head = codes "\n],\"rounds\":[\n[\"core\",\"round\",\"count\"]"

-- the beginning of the table of stints, with the names of its columns
abbrev pub stint_head : List ℕ
stint_head = codes "\n],\"stints\":[\n[\"core\",\"from\",\"end\",\"vcpu\",\"how\",\"used\",\"seen\"]"

-- a table: its first row, and one for each of these
abbrev pub json_table : {X : Type 0} → List ℕ → (X → List ℕ) → List X → List ℕ
json_table first row xs = first ++ flat_map row xs

-- the text of a view
abbrev pub json_text : ℕ → View → List ℕ
json_text tick view = json_begin tick view.cores (kind_text view.is_run)
    ++ (texts_below (vcpu_row view.names.items view.tasks.items) (length view.names.items)
    ++ (json_table slot_head (stretch_row view.names.items) view.slots.items
    ++ (json_table entry_head entry_row view.entries.items
    ++ (json_table stint_head (stretch_row view.names.items) view.stints.items ++ codes "\n]}\n"))))
