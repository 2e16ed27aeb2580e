-- The texts of the tables of a plan: rows of vCPUs or of VMs, rows of cores, and a line of totals.
use Rattle.std.specs.Prelude.{ℕ, ◌++◌, Bool, if◌then◌else◌, List, [], codes, length, Option}
use Rattle.tab_core.specs.declared.vcpu.Vcpu.{Vcpu}
use Rattle.tab_words.specs.Texts.{texts_below}
use Rattle.view_cells.specs.Cells.{left, width_below}
use Rattle.view_doc.specs.declared.view.View.{View}
use Rattle.view_table.specs.Given.{is_refused}
use Rattle.view_table.specs.Groups.{vm_head, vm_row}
use Rattle.view_table.specs.Table.{core_head, core_row, table_head, table_row}
use Rattle.view_table.specs.Totals.{total_text}

-- what is after the rows of vCPUs or of VMs
abbrev pub end_text : Option (List Vcpu) → Bool → ℕ → View → List ℕ
end_text host refused tick view =
    core_head ++ (texts_below (core_row view.slots.items) view.cores ++ total_text host refused tick view)

-- the text of a row for each vCPU, with names in a column of this width
abbrev pub table_of : Option (List Vcpu) → Bool → ℕ → ℕ → View → List ℕ
table_of host refused tick width view = left width (codes "vcpu") ++ (table_head host
    ++ (texts_below (table_row host refused tick width view.names.items view.tasks.items view.slots.items view.cores)
    (length view.tasks.items) ++ end_text host refused tick view))

-- the text of a row for each VM
abbrev pub vm_table_of : Option (List Vcpu) → Bool → ℕ → ℕ → View → List ℕ
vm_table_of host refused tick width view = left width (codes "vm") ++ (vm_head host
    ++ (texts_below (vm_row host refused tick width view.names.items view.tasks.items view.slots.items view.cores)
    (length view.tasks.items) ++ end_text host refused tick view))

-- the width of the column of names
abbrev pub width_in : View → ℕ
width_in view = width_below view.names.items (length view.tasks.items)

-- the line by which `tableau check` refuses the tables, and an empty line; nothing where it doesn't refuse them
unfoldable pub refusal_lines : List ℕ → List ℕ
refusal_lines refusal = codes "tableau check: " ++ (refusal ++ codes "\n\n")

-- what is above the tables
abbrev pub refusal_text : List ℕ → List ℕ
refusal_text refusal = if is_refused refusal then refusal_lines refusal else []

-- the tables of a plan, beside what the vCPUs of a host have reserved where these are known; where `tableau check`
-- refuses them, its line is above all
abbrev pub table_text : Option (List Vcpu) → List ℕ → ℕ → View → List ℕ
table_text host refusal tick view =
    refusal_text refusal ++ table_of host (is_refused refusal) tick (width_in view) view

-- the tables of a plan by VM, likewise
abbrev pub vm_table_text : Option (List Vcpu) → List ℕ → ℕ → View → List ℕ
vm_table_text host refusal tick view =
    refusal_text refusal ++ vm_table_of host (is_refused refusal) tick (width_in view) view
