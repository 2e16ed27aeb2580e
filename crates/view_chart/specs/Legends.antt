-- The list of the vCPUs that have a box, or of the cores by whose numbers lanes of vCPUs are drawn, below the lanes: four
-- in a row, by number.
use Rattle.std.specs.Prelude.{ℕ, ◌+◌, ◌-◌, ◌*◌, ◌/◌, ◌%◌, ◌++◌, Bool, true, false, List, [], codes, decimal, length, slice_index, slice_get, Option, Some, None, min}
use Rattle.tab_words.specs.Texts.{texts_below}
use Rattle.vcpu_names.specs.Names.{name_at}
use Rattle.view_doc.specs.declared.view.Task.{Task}
use Rattle.view_svg.specs.Drawings.{PaletteView}
use Rattle.view_svg.specs.Keys.{count_below, has_lane}
use Rattle.view_svg.specs.Marks.{short_back, short_dots, short_front}
use Rattle.view_lanes.specs.Amounts.{per_mille, tenths_ms}
use Rattle.view_lanes.specs.declared.frame.Bar.{Bar}
use Rattle.view_lanes.specs.declared.frame.Frame.{Frame}

-- where the column of a place begins, from the left
abbrev pub column_of : ℕ → ℕ
column_of k = 4000 + k % 4 * 36000

-- the line of a place's row, below lanes that end there
abbrev pub legend_row : ℕ → ℕ → ℕ
legend_row foot k = foot + 5500 + k / 4 * 1400

-- what is listed: vCPUs, or cores
abbrev pub listed_word : Bool → List ℕ
listed_word false = codes "vCPU"
listed_word true = codes "core"

-- the head of a column of names: what is listed
unfoldable pub legend_head : ℕ → ℕ → List ℕ → List ℕ
legend_head x y word = codes "<text x=\"" ++ (decimal x ++ (codes "\" y=\"" ++ (decimal y
    ++ (codes "\" font-size=\"1000\" class=\"label\">" ++ (word ++ codes "</text>\n")))))

-- the heads of the shares and of the periods in a column
unfoldable pub task_head : ℕ → ℕ → ℕ → List ℕ
task_head share period y = codes "<g font-size=\"900\" class=\"dim\" text-anchor=\"end\"><text x=\"" ++ (decimal share
    ++ (codes "\" y=\"" ++ (decimal y ++ (codes "\">share</text><text x=\"" ++ (decimal period
    ++ (codes "\" y=\"" ++ (decimal y ++ codes "\">period</text></g>\n")))))))

-- the heads of the shares and of the periods, where the vCPU of the column's number has a task
abbrev pub task_heads : ℕ → ℕ → Option Task → List ℕ
task_heads x y None = []
task_heads x y (Some t) = task_head (x + 19000) (x + 25000) y

-- the heads of a column
abbrev pub head_from : Bool → ℕ → ℕ → Option Task → List ℕ
head_from by_vcpu x y task = legend_head x y (listed_word by_vcpu) ++ task_heads x y task

-- the heads of the column of a number, below lanes that end there
abbrev pub head_at : Frame → ℕ → List Task → ℕ → List ℕ
head_at f foot tasks k = head_from f.by_vcpu (column_of k) (foot + 3800) (slice_get tasks k)

-- the box of a colour
unfoldable pub swatch : ℕ → ℕ → ℕ → List ℕ
swatch colour x y = codes "<path class=\"c" ++ (decimal colour ++ (codes "\" d=\"M" ++ (decimal x ++ (codes " " ++ (decimal y
    ++ codes "h1000v900h-1000z\"/>")))))

-- a name, maybe cut: the letters before the dots, the dots, and those after them
unfoldable pub legend_name : ℕ → ℕ → List ℕ → List ℕ → List ℕ → List ℕ
legend_name x y front dots back = codes "<text x=\"" ++ (decimal x ++ (codes "\" y=\"" ++ (decimal y
    ++ (codes "\" font-size=\"900\" class=\"name\">" ++ (front ++ (dots ++ (back ++ codes "</text>\n")))))))

-- a share in tenths of a percent, and a period in tenths of a millisecond
unfoldable pub legend_task : ℕ → ℕ → ℕ → ℕ → ℕ → List ℕ
legend_task x far y part period = codes "<g font-size=\"900\" class=\"dim\" text-anchor=\"end\"><text x=\""
    ++ (decimal x ++ (codes "\" y=\"" ++ (decimal y ++ (codes "\">" ++ (decimal (part / 10) ++ (codes "."
    ++ (decimal (part % 10) ++ (codes " %</text><text x=\"" ++ (decimal far ++ (codes "\" y=\"" ++ (decimal y
    ++ (codes "\">" ++ (decimal (period / 10) ++ (codes "." ++ (decimal (period % 10)
    ++ codes " ms</text></g>\n")))))))))))))))

-- the share and the period of a task, where a tick has so many nanoseconds
abbrev pub task_cells : ℕ → ℕ → ℕ → Task → List ℕ
task_cells tick x y t = legend_task (x + 19000) (x + 25000) y (per_mille t.cost t.period) (tenths_ms tick t.period)

-- the share and the period of a vCPU that has a task; nothing of any other key
abbrev pub task_entry : ℕ → ℕ → ℕ → Option Task → List ℕ
task_entry tick x y None = []
task_entry tick x y (Some t) = task_cells tick x y t

-- an entry: a colour, a name, and the task where there is one
abbrev pub entry_at : ℕ → ℕ → ℕ → ℕ → List ℕ → Option Task → List ℕ
entry_at tick x y colour name task = swatch colour x (y - 850)
    ++ (legend_name (x + 1300) y (short_front name) (short_dots name) (short_back name) ++ task_entry tick x y task)

-- the key of a number is in the place of a number, if it has a box
abbrev pub legend_entry : ℕ → ℕ → PaletteView → Bool → ℕ → ℕ → List ℕ
legend_entry tick foot p false k v = []
legend_entry tick foot p true k v = entry_at tick (column_of k) (legend_row foot k) (slice_index p.colours v)
    (name_at p.names v) (slice_get p.tasks v)

-- the entry of the key of this number, if it has a box, in the place of its rank among those that have one
abbrev pub legend_entry_at : ℕ → ℕ → PaletteView → List (List Bar) → ℕ → List ℕ
legend_entry_at tick foot p lanes v =
    legend_entry tick foot p (has_lane lanes v) (count_below (has_lane lanes) v) v

-- how many have a box on one of the lanes
abbrev pub listed_in : List (List Bar) → List (List ℕ) → ℕ
listed_in lanes names = count_below (has_lane lanes) (length names)

-- the list below lanes that end there: the heads of up to four columns, and an entry for each key
-- that has a box
abbrev pub legend_text : Frame → ℕ → PaletteView → List (List Bar) → List ℕ
legend_text f foot p lanes = texts_below (head_at f foot p.tasks) (min (listed_in lanes p.names) 4)
    ++ texts_below (legend_entry_at f.tick foot p lanes) (length p.names)

-- where the list of so many keys ends, below its last row
abbrev pub legend_end : ℕ → ℕ → ℕ
legend_end foot count = foot + 5500 + (count + 3) / 4 * 1400
