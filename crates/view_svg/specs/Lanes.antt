-- A lane: a path of boxes for each key, which is a vCPU on a core's lane and a core on a vCPU's, and each way of
-- running, and the names that fit; on a vCPU's lane of a plan also its longest wait and the one that was promised.
use Rattle.std.specs.Prelude.{ℕ, ◌+◌, ◌-◌, ◌*◌, ◌/◌, ◌%◌, ◌==◌, ◌&&◌, ◌++◌, nat_le, nat_lt, Bool, true, false, not, List, [], codes, decimal, flat_map, if◌then◌else◌, length, max, min, slice_index, slice_index_or, Option, Some, None, slice_get}
use Rattle.std.specs.List.{list_any}
use Rattle.tab_core.specs.declared.TheConstants.{ROUND}
use Rattle.tab_words.specs.Texts.{texts_below}
use Rattle.vcpu_names.specs.Names.{name_at}
use Rattle.view_doc.specs.declared.view.Task.{Task}
use Rattle.view_svg.specs.Drawings.{PaletteView, VcpusView}
use Rattle.view_svg.specs.Frames.{letters_of, right_end, x_at}
use Rattle.view_svg.specs.Joined.{boxes_of, seams_of}
use Rattle.view_svg.specs.Marks.{box_path, short_back, short_dots, short_front}
use Rattle.view_svg.specs.declared.drawing.Band.{Band}
use Rattle.view_lanes.specs.Amounts.{per_mille, tenths_ms}
use Rattle.view_lanes.specs.Shown.{held_in}
use Rattle.view_lanes.specs.declared.frame.Bar.{Bar}
use Rattle.view_lanes.specs.declared.frame.Frame.{Frame}

-- a bar ran in this way: shared, or in a slot
abbrev pub runs_so : Bool → Bar → Bool
runs_so false bar = not bar.shared
runs_so true bar = bar.shared

-- a bar has this key, and ran in this way
abbrev pub is_bar_of : ℕ → Bool → Bar → Bool
is_bar_of v shared bar = (bar.key == v) && runs_so shared bar

-- a shared stint has the lower three fifths of the lane
abbrev pub top_in : ℕ → ℕ → Bool → ℕ
top_in y high false = y
top_in y high true = y + high * 2 / 5

-- the box of a bar
abbrev pub bar_box : Band → Bar → List ℕ
bar_box b bar =
    box_path (x_at b.frame bar.from) (top_in b.y b.high bar.shared) (x_at b.frame bar.end) (b.y + b.high)

-- the box of a bar that is this vCPU's
abbrev pub box_of : Band → ℕ → Bool → Bar → List ℕ
box_of b v shared bar = if is_bar_of v shared bar then bar_box b bar else []

-- what is said of a vCPU: its name, and what its reservation is, in tenths of a millisecond
unfoldable pub task_note : List ℕ → ℕ → ℕ → ℕ → List ℕ
task_note name home cost period = name ++ (codes ": home core " ++ (decimal home ++ (codes ", " ++ (decimal (cost / 10)
    ++ (codes "." ++ (decimal (cost % 10) ++ (codes " ms in each " ++ (decimal (period / 10) ++ (codes "."
    ++ (decimal (period % 10) ++ codes " ms"))))))))))

-- what a name without a reservation is: a vCPU's, or a core's number
abbrev pub key_word : Bool → List ℕ
key_word false = []
key_word true = codes "core "

-- what is said of a key: of a vCPU with a task its home, cost and period, of a core its number, else the name
abbrev pub note_of : Frame → List ℕ → Option Task → List ℕ
note_of f name None = key_word f.by_vcpu ++ name
note_of f name (Some t) = task_note name t.home (tenths_ms f.tick t.cost) (tenths_ms f.tick t.period)

-- what is said of the key of a number
abbrev pub key_note : Frame → PaletteView → ℕ → List ℕ
key_note f p v = note_of f (name_at p.names v) (slice_get p.tasks v)

-- the class of boxes of this way of running
abbrev pub way_class : Bool → List ℕ
way_class false = []
way_class true = codes " sh"

-- the words for this way of running, after a name
abbrev pub way_word : Bool → List ℕ
way_word false = []
way_word true = codes ", shared"

-- the beginning of a path that has this colour and class
unfoldable pub path_begin : ℕ → List ℕ → List ℕ
path_begin colour class = codes "<path class=\"c" ++ (decimal colour ++ (class ++ codes "\" d=\""))

-- the end of a path, with its title: a note and the way of running
abbrev pub path_end : List ℕ → List ℕ → List ℕ
path_end note word = codes "\"><title>" ++ (note ++ (word ++ codes "</title></path>\n"))

-- a path of boxes that has a colour and a title
abbrev pub titled_path : ℕ → List ℕ → List ℕ → List ℕ → List ℕ → List ℕ
titled_path colour class boxes note word = path_begin colour class ++ (boxes ++ path_end note word)

-- a vCPU's path of one way of running, if it has a bar
abbrev pub vcpu_path : Band → PaletteView → List Bar → Bool → ℕ → List ℕ
vcpu_path b p bars shared v =
    if list_any (is_bar_of v shared) bars
    then titled_path (slice_index p.colours v) (way_class shared) (flat_map (box_of b v shared) bars)
    (key_note b.frame p v) (way_word shared)
    else []

-- the paths of a vCPU, of its slots first
abbrev pub vcpu_paths : Band → PaletteView → List Bar → ℕ → List ℕ
vcpu_paths b p bars v = vcpu_path b p bars false v ++ vcpu_path b p bars true v

-- a line from the top of a lane to its foot
unfoldable pub cut_line : ℕ → ℕ → ℕ → List ℕ
cut_line x y high = codes "M" ++ (decimal x ++ (codes " " ++ (decimal y ++ (codes "V" ++ decimal (y + high)))))

-- a line where this bar begins, if it is wide enough to bear one
abbrev pub bar_cut : Band → Bar → List ℕ
bar_cut b bar =
    if nat_le (x_at b.frame bar.from + 300) (x_at b.frame bar.end) then cut_line (x_at b.frame bar.from) b.y b.high
    else []

-- a name around a point
unfoldable pub name_text : ℕ → ℕ → List ℕ → List ℕ
name_text x y name = codes "<text x=\"" ++ (decimal x ++ (codes "\" y=\"" ++ (decimal y ++ (codes "\">"
    ++ (name ++ codes "</text>\n")))))

-- how wide a name is in letters of this height, with the space round it
abbrev pub width_of : ℕ → List ℕ → ℕ
width_of letters name = length name * (letters * 61 / 100) + 500

-- the line on which letters are in the middle of what is so high
abbrev pub line_in : ℕ → ℕ → ℕ → ℕ
line_in y high letters = y + high / 2 + letters * 35 / 100

-- the name of a bar's key in the middle of the bar, if the bar is as wide as the name
abbrev pub bar_name : Band → List (List ℕ) → Bar → List ℕ
bar_name b names bar =
    if nat_le (x_at b.frame bar.from + width_of (letters_of b.high) (name_at names bar.key)) (x_at b.frame bar.end)
    then name_text ((x_at b.frame bar.from + x_at b.frame bar.end) / 2)
    (line_in (top_in b.y b.high bar.shared) (b.y + b.high - top_in b.y b.high bar.shared) (letters_of b.high))
    (name_at names bar.key)
    else []

-- where the names of a lane begin
unfoldable pub names_begin : ℕ → List ℕ
names_begin letters = codes "\"/>\n<g class=\"name on\" text-anchor=\"middle\" font-size=\"" ++ (decimal letters
    ++ codes "\">\n")

-- a thin line where each of these bars begins, if there are any
abbrev pub seams_text : Band → List Bar → List ℕ
seams_text b seams =
    if length seams == 0 then []
    else codes "<path class=\"seam\" d=\"" ++ (flat_map (bar_cut b) seams ++ codes "\"/>\n")

-- a line where each of these boxes begins, and their names
abbrev pub box_marks_text : Band → List (List ℕ) → List Bar → List ℕ
box_marks_text b names boxes = codes "<path class=\"cut\" d=\"" ++ (flat_map (bar_cut b) boxes
    ++ (names_begin (letters_of b.high) ++ (flat_map (bar_name b names) boxes ++ codes "</g>\n")))

-- the bars of a lane as boxes, a thin line where a bar begins in a box, and the lines and names of the boxes
abbrev pub bars_text : Band → PaletteView → List Bar → List ℕ
bars_text b p bars = texts_below (vcpu_paths b p (boxes_of b.frame bars)) (length p.names)
    ++ (seams_text b (seams_of b.frame bars) ++ box_marks_text b p.names (boxes_of b.frame bars))

-- the ground of a lane
abbrev pub ground_box : ℕ → ℕ → ℕ → List ℕ
ground_box high pitch i = box_path 9400 (9800 + i * pitch) right_end (9800 + i * pitch + high)

-- the number of a core, left of its lane
unfoldable pub core_label : ℕ → ℕ → ℕ → ℕ → List ℕ
core_label x core y letters = codes "<g><title>core " ++ (decimal core
    ++ (codes "</title>\n<text x=\"" ++ (decimal x ++ (codes "\" y=\"" ++ (decimal y ++ (codes "\" font-size=\"" ++ (decimal letters
    ++ (codes "\" class=\"label\" text-anchor=\"end\">core " ++ (decimal core ++ codes "</text>\n")))))))))

-- how much of a lane is somebody's, in tenths of a percent, left of the lane
unfoldable pub share_label : ℕ → ℕ → List ℕ
share_label y share = codes "<text x=\"8700\" y=\"" ++ (decimal y
    ++ (codes "\" font-size=\"900\" class=\"dim\" text-anchor=\"end\">" ++ (decimal (share / 10)
    ++ (codes "." ++ (decimal (share % 10) ++ codes " %</text>\n")))))

-- what is left of a core's lane: its number, and beside or below it how much of the lane is somebody's
abbrev pub core_text : ℕ → ℕ → ℕ → ℕ → List ℕ
core_text core y high share =
    if nat_le 2800 high
    then core_label 8700 core (y + high / 2 - 100) 1100 ++ share_label (y + high / 2 + 1200) share
    else core_label 4600 core (line_in y high 900) 900 ++ share_label (line_in y high 900) share

-- a vCPU's name left of its lane
unfoldable pub vcpu_label : List ℕ → ℕ → List ℕ → List ℕ → List ℕ → List ℕ
vcpu_label name y front dots back = codes "<g><title>" ++ (name ++ (codes "</title>\n<text x=\"8700\" y=\"" ++ (decimal y
    ++ (codes "\" font-size=\"900\" class=\"name\" text-anchor=\"end\">" ++ (front ++ (dots ++ (back ++ codes "</text>\n")))))))

-- the name of a vCPU, cut where it is long, left of its lane
abbrev pub lane_vcpu_text : List ℕ → ℕ → ℕ → List ℕ
lane_vcpu_text name y high = vcpu_label name (line_in y high 900) (short_front name) (short_dots name) (short_back name)

-- what is left of the lane of a core, of which these bars have so much, or of a vCPU, which has one of these names
abbrev pub label_text : Band → List (List ℕ) → ℕ → List Bar → List ℕ
label_text b names row bars =
    if b.frame.by_vcpu then lane_vcpu_text (name_at names row) b.y b.high
    else core_text row b.y b.high (per_mille (held_in b.frame bars) (b.frame.to - b.frame.from))

-- ---- the longest wait

-- a line at half height over those of the ticks that are shown
unfoldable pub wait_line : ℕ → ℕ → ℕ → List ℕ
wait_line x y end = codes "M" ++ (decimal x ++ (codes " " ++ (decimal y ++ (codes "H" ++ decimal end))))

-- a line over those of the ticks between two that are shown
abbrev pub wait_part : Frame → ℕ → ℕ → ℕ → List ℕ
wait_part f y first last =
    if nat_lt (max first f.from) (min last f.to)
    then wait_line (x_at f (max first f.from)) y (x_at f (min last f.to))
    else []

-- the wait is longer than was promised; a wait of two rounds is without an end
abbrev pub is_late : ℕ → ℕ → Option ℕ → Bool
is_late tick wait None = false
is_late tick wait (Some latency) = not (nat_lt wait (2 * ROUND) && nat_le (wait * tick) latency)

-- the class of a wait's length: of one that is longer than promised, or of another
abbrev pub wait_class : Bool → List ℕ
wait_class false = codes "dim"
wait_class true = codes "late"

-- the end of a wait's length where a latency was promised, in tenths of a millisecond
unfoldable pub promise_end : ℕ → List ℕ
promise_end latency = codes "of " ++ (decimal (latency / 10) ++ (codes "." ++ (decimal (latency % 10)
    ++ codes " ms</text>\n")))

-- the end of a wait's length where no latency was promised
unfoldable pub plain_end : List ℕ
plain_end = codes "ms</text>\n"

-- the end of a wait's length, by the latency that was promised in nanoseconds, if one was
abbrev pub wait_end : Option ℕ → List ℕ
wait_end None = plain_end
wait_end (Some latency) = promise_end (latency / 100000)

-- how long a wait is, in tenths of a millisecond, right of the lane
unfoldable pub wait_label : ℕ → List ℕ → ℕ → List ℕ
wait_label y class wait = codes "\"/>\n<text x=\"112400\" y=\"" ++ (decimal y
    ++ (codes "\" font-size=\"800\" class=\"" ++ (class ++ (codes "\">" ++ (decimal (wait / 10) ++ (codes "."
    ++ (decimal (wait % 10) ++ codes " ")))))))

-- how long a wait of so many ticks is and how long it may be, right of the lane
abbrev pub wait_note : ℕ → ℕ → ℕ → Option ℕ → List ℕ
wait_note tick y wait promise =
    wait_label y (wait_class (is_late tick wait promise)) (tenths_ms tick wait) ++ wait_end promise

-- a wait of so many ticks that ends at a tick of two rounds: the part in the first round, and that in the second, each
-- where its round is
unfoldable pub wait_at : Frame → ℕ → ℕ → ℕ → ℕ → Option ℕ → List ℕ
wait_at f y line wait mark promise = codes "<path class=\"wait\" d=\"" ++ (wait_part f y (mark - wait) (min mark ROUND)
    ++ (wait_part f y (mark - wait - ROUND) (mark - ROUND) ++ wait_note f.tick line wait promise))

-- a wait of so many ticks that ends at a tick
abbrev pub wait_text : Band → ℕ → ℕ → Option ℕ → List ℕ
wait_text b wait mark promise = wait_at b.frame (b.y + b.high / 2) (line_in b.y b.high 800) wait mark promise

-- the longest wait of a vCPU on its lane, if its end is known
abbrev pub longest_wait_text : Band → ℕ → Option ℕ → Option ℕ → List ℕ
longest_wait_text b wait None promise = []
longest_wait_text b wait (Some mark) promise = wait_text b wait mark promise

-- the longest wait on a vCPU's lane, if its length and its end are known
abbrev pub marked_text : Band → Option ℕ → Option ℕ → Option ℕ → List ℕ
marked_text b None mark promise = []
marked_text b (Some wait) mark promise = longest_wait_text b wait mark promise

-- the longest wait of this vCPU on its lane, in a picture of a plan by vCPU
abbrev pub lane_waits_text : Band → VcpusView → ℕ → List ℕ
lane_waits_text b of v =
    if b.frame.by_vcpu && not b.frame.is_run
    then marked_text b (slice_get of.figures.waits.items v) (slice_get of.figures.marks.items v)
    (slice_index_or of.promises v None)
    else []
