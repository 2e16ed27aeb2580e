-- What differs between two plans for other programs: as JSON, and as comma-separated values.
-- Source: RFC 8259 and RFC 4180, but for the line ends. Names need no escape and no quotes.
use Rattle.std.specs.Prelude.{ℕ, ◌+◌, ◌*◌, ◌++◌, Bool, true, false, List, [], codes, decimal, length, Option, Some, None, slice_get}
use Rattle.tab_words.specs.Texts.{texts_below}
use Rattle.vcpu_names.specs.Names.{name_at}
use Rattle.view_doc.specs.declared.view.Task.{Task}
use Rattle.view_doc.specs.declared.view.View.{View}
use Rattle.view_cells.specs.CellTexts.{comma_before}
use Rattle.view_table.specs.Data.{load_data, number_or, table_json_begin, wait_or}
use Rattle.view_table.specs.Diff.{same_slots, vcpu_number_in}
use Rattle.view_table.specs.Table.{task_share}
use Rattle.view_table.specs.Waits.{wait_of}
use Rattle.view_table.specs.declared.diff_data.Form.{Form}
use Rattle.view_table.specs.declared.diff_data.Form.TheVariants.{Json, Csv}
use Rattle.view_table.specs.declared.diff_data.Style.{Style}

-- ---- a vCPU in one of the plans

-- what a vCPU has in one of the plans, in JSON: its share, period, longest wait and home
unfoldable pub json_side : ℕ → Task → ℕ → List ℕ
json_side tick t wait = codes "{\"share_ppm\":" ++ (decimal (task_share t) ++ (codes ",\"period_ns\":"
    ++ (decimal (t.period * tick) ++ (codes ",\"wait_ns\":" ++ (number_or (codes "null") (wait_or tick wait)
    ++ (codes ",\"home\":" ++ (decimal t.home ++ codes "}")))))))

-- what a vCPU has in one of the plans, in columns: its share, period, longest wait and home
unfoldable pub csv_side : ℕ → Task → ℕ → List ℕ
csv_side tick t wait = decimal (task_share t) ++ (codes "," ++ (decimal (t.period * tick) ++ (codes ","
    ++ (number_or [] (wait_or tick wait) ++ (codes "," ++ decimal t.home)))))

-- what is written where a plan hasn't the vCPU
abbrev pub no_side : Form → List ℕ
no_side Json = codes "null"
no_side Csv = codes ",,,"

-- what a vCPU has in one of the plans, in this form
abbrev pub side_text : Form → ℕ → Task → ℕ → List ℕ
side_text Json tick t wait = json_side tick t wait
side_text Csv tick t wait = csv_side tick t wait

-- what a vCPU has in one of the plans, if that has a line for it
abbrev pub side_of : Style → Option Task → ℕ → List ℕ
side_of style None wait = no_side style.form
side_of style (Some t) wait = side_text style.form style.tick_ns t wait

-- what the vCPU of a number has in a plan, if there is one
abbrev pub side_in : Style → View → Option ℕ → List ℕ
side_in style view None = no_side style.form
side_in style view (Some v) = side_of style (slice_get view.tasks.items v) (wait_of view.slots.items v)

-- ---- a row

-- the beginning of a vCPU's object: its name
unfoldable pub json_name : List ℕ → List ℕ
json_name name = codes "{\"name\":\"" ++ (name ++ codes "\",\"old\":")

-- the beginning of a vCPU's row: its name
unfoldable pub csv_name : List ℕ → List ℕ
csv_name name = name ++ codes ","

-- what is before the old plan's part, with so many rows before this one
abbrev pub row_begin : Form → ℕ → List ℕ → List ℕ
row_begin Json n name = comma_before n ++ json_name name
row_begin Csv n name = csv_name name

-- what is between both parts, and after them
abbrev pub row_middle : Form → List ℕ
row_middle Json = codes ",\"new\":"
row_middle Csv = codes ","

-- what is after the new plan's part of a vCPU
abbrev pub row_end : Form → List ℕ
row_end Json = codes "}"
row_end Csv = codes "\n"

-- the beginning of a vCPU's row, after so many rows: its name, and what it has in the old plan
abbrev pub old_part : Style → ℕ → List ℕ → View → Option ℕ → List ℕ
old_part style n name view v = row_begin style.form n name ++ side_in style view v

-- the end of a vCPU's row: what it has in the new plan
abbrev pub new_part : Style → View → Option ℕ → List ℕ
new_part style view w = row_middle style.form ++ (side_in style view w ++ row_end style.form)

-- a vCPU of the old plan
abbrev pub old_row : Style → View → View → ℕ → List ℕ
old_row style old new v = old_part style v (name_at old.names.items v) old (Some v)
    ++ new_part style new (vcpu_number_in new (name_at old.names.items v))

-- a vCPU of the new plan that the old one hasn't; it comes after those of the old one
abbrev pub added_row : Style → View → View → ℕ → List ℕ
added_row style old new w =
    old_part style (length old.tasks.items + w) (name_at new.names.items w) old None
    ++ new_part style new (Some w)

-- the row of a vCPU of the new plan, if the old one hasn't it
abbrev pub new_found : Style → View → View → ℕ → Option ℕ → List ℕ
new_found style old new w None = added_row style old new w
new_found style old new w (Some v) = []

-- the row of the vCPU of a number of the new plan, if the old one hasn't it
abbrev pub new_row : Style → View → View → ℕ → List ℕ
new_row style old new w = new_found style old new w (vcpu_number_in old (name_at new.names.items w))

-- each vCPU of either plan
abbrev pub both_rows : Style → View → View → List ℕ
both_rows style old new = texts_below (old_row style old new) (length old.tasks.items)
    ++ texts_below (new_row style old new) (length new.tasks.items)

-- ---- the texts

-- the loads of a plan's cores
abbrev pub loads_part : List ℕ → View → List ℕ
loads_part before view = before ++ texts_below (load_data view.slots.items) view.cores

-- the loads of the old plan's cores, with what is before them
abbrev pub old_loads : View → List ℕ
old_loads view = loads_part (codes "],\"load_ppm\":{\"old\":[") view

-- the loads of the new plan's cores, with what is before them
abbrev pub new_loads : View → List ℕ
new_loads view = loads_part (codes "],\"new\":[") view

-- what ends the text: whether the segments are others
abbrev pub slots_end : Bool → List ℕ
slots_end true = codes "]},\"slots_differ\":false}\n"
slots_end false = codes "]},\"slots_differ\":true}\n"

-- the end of the text: whether the two plans differ in their segments
abbrev pub slots_part : View → View → List ℕ
slots_part old new =
    slots_end (same_slots old.names.items new.names.items old.slots.items new.slots.items)

-- the vCPUs of two plans, the loads of their cores, and whether the segments are others
abbrev pub diff_json : ℕ → View → View → List ℕ
diff_json tick old new = table_json_begin tick ++ (both_rows (record { form = Json; tick_ns = tick }) old new
    ++ (old_loads old ++ (new_loads new ++ slots_part old new)))

-- the names of the columns
abbrev pub diff_head : List ℕ
diff_head = codes "vcpu,old_share_ppm,old_period_ns,old_wait_ns,old_home,new_share_ppm,new_period_ns,new_wait_ns,new_home\n"

-- the vCPUs of two plans
abbrev pub diff_csv : ℕ → View → View → List ℕ
diff_csv tick old new = diff_head ++ both_rows (record { form = Csv; tick_ns = tick }) old new
