-- A lane of many bars is drawn as 200 columns: in each the vCPUs are upon each other by number, each as high
-- as its part of the column's ticks.
use Rattle.std.specs.Prelude.{ℕ, ◌+◌, ◌-◌, ◌*◌, ◌/◌, ◌==◌, nat_lt, List, [], if◌then◌else◌, length, slice_index}
use Rattle.std.specs.List.{list_any}
use Rattle.tab_words.specs.Texts.{texts_below}
use Rattle.view_svg.specs.Drawings.{PaletteView}
use Rattle.view_svg.specs.Lanes.{key_note, titled_path}
use Rattle.view_svg.specs.Marks.{box_path}
use Rattle.view_svg.specs.declared.drawing.Band.{Band}
use Rattle.view_lanes.specs.Columns.{column_ticks, width_at}
use Rattle.view_lanes.specs.declared.frame.Bar.{Bar}
use Rattle.view_lanes.specs.declared.frame.Frame.{Frame}

-- how high those below a vCPU are
abbrev pub level_of : Frame → ℕ → List Bar → ℕ → ℕ → ℕ
level_of f high bars v j = column_ticks (λ w. nat_lt w v) f 200 bars j * high / width_at f 200 j

-- a box from one level to another in the column of a number, if it has a height
abbrev pub level_box : ℕ → ℕ → ℕ → ℕ → List ℕ
level_box foot low top j =
    if nat_lt low top then box_path (9400 + j * 513) (foot - top) (9400 + j * 513 + 513) (foot - low) else []

-- the box of a vCPU's ticks in the column of a number: from the level of the lower vCPUs to its own
abbrev pub column_box : Band → List Bar → ℕ → ℕ → List ℕ
column_box b bars v j =
    level_box (b.y + b.high) (level_of b.frame b.high bars v j) (level_of b.frame b.high bars (v + 1) j) j

-- a vCPU's path of boxes in columns, if it has a bar
abbrev pub column_path : Band → PaletteView → List Bar → ℕ → List ℕ
column_path b p bars v =
    if list_any (λ bar. bar.key == v) bars
    then titled_path (slice_index p.colours v) [] (texts_below (column_box b bars v) 200) (key_note b.frame p v) []
    else []

-- a lane that is drawn in columns: a path for each key that has a bar there
abbrev pub columns_text : Band → PaletteView → List Bar → List ℕ
columns_text b p bars = texts_below (column_path b p bars) (length p.names)
