-- A view as a text for terminals: a line for each core, in it a letter for each column of ticks, and below them the
-- vCPUs' letters.
use Rattle.std.specs.Prelude.{ℕ, zero, suc, ◌+◌, ◌-◌, ◌/◌, ◌%◌, ◌==◌, ◌||◌, ◌++◌, nat_le, nat_lt, false, List, [], ◌∷◌, codes, decimal, if◌then◌else◌, length, min, slice_index_or}
use Rattle.std.specs.List.{sum_by}
use Rattle.tab_words.specs.Texts.{texts_below}
use Rattle.vcpu_names.specs.Names.{name_at}
use Rattle.view_doc.specs.declared.view.View.{View}
use Rattle.view_lanes.specs.Amounts.{per_mille}
use Rattle.view_lanes.specs.Columns.{column_ticks, ticks_in, width_at}
use Rattle.view_lanes.specs.Shown.{chart_lanes, frame_of, held_in}
use Rattle.view_lanes.specs.Titles.{head_in, plural, sub_text, title_text}
use Rattle.view_lanes.specs.declared.frame.Bar.{Bar}
use Rattle.view_lanes.specs.declared.frame.ChartOptions.{ChartOptions}
use Rattle.view_lanes.specs.declared.frame.Frame.{Frame}
use Rattle.view_lanes.specs.declared.titles.Head.{Head}
use Rattle.view_text.specs.declared.options.TextOptions.{TextOptions}

-- ---- a column

-- how many ticks of the column of a number a vCPU has
abbrev pub owned_at : Frame → ℕ → List Bar → ℕ → ℕ → ℕ
owned_at f columns bars j v = column_ticks (λ w. w == v) f columns bars j

-- how many ticks of the column of a number the vCPUs have together: at most as many as the column has
abbrev pub held_at : Frame → ℕ → List Bar → ℕ → ℕ
held_at f columns bars j = min (width_at f columns j) (sum_by (ticks_in f columns j) bars)

-- of the numbers below one the least that has the most
abbrev pub leader : (ℕ → ℕ) → ℕ → ℕ
leader ticks zero = 0
leader ticks (suc n) = if nat_lt (ticks (leader ticks n)) (ticks n) then n else leader ticks n

-- the vCPUs' letters by number: a to z, then A to Z, then #
abbrev pub letter_of : ℕ → ℕ
letter_of v = if nat_lt v 26 then 97 + v else if nat_lt v 52 then 39 + v else 35

-- the letter of the vCPU that has the most ticks, a colon where nobody had more, and a dot where no vCPU had any
unfoldable pub letter_for : ℕ → ℕ → ℕ → ℕ
letter_for v most idle = if most == 0 then 46 else if nat_le idle most then letter_of v else 58

-- the letter of the column of a number, in which this vCPU has the most ticks
abbrev pub letter_by : Frame → ℕ → List Bar → ℕ → ℕ → ℕ
letter_by f columns bars j v =
    letter_for v (owned_at f columns bars j v) (width_at f columns j - held_at f columns bars j)

-- the letter of the column of a number
abbrev pub letter_at : Frame → ℕ → ℕ → List Bar → ℕ → ℕ
letter_at f columns vcpus bars j = letter_by f columns bars j (leader (owned_at f columns bars j) vcpus)

-- the letter of the column of a number, as a text
abbrev pub cell_at : Frame → ℕ → ℕ → List Bar → ℕ → List ℕ
cell_at f columns vcpus bars j = letter_at f columns vcpus bars j ∷ []

-- ---- a line

-- the spaces between a core's number and its columns
abbrev pub gap_behind : ℕ → List ℕ
gap_behind core = if nat_lt core 10 then codes "  " else codes " "

-- the spaces before a share, in tenths of a percent
abbrev pub gap_before : ℕ → List ℕ
gap_before share = if nat_lt share 100 then codes "    " else if nat_lt share 1000 then codes "   " else codes "  "

-- the beginning of a core's line, up to its columns
unfoldable pub line_begin : ℕ → List ℕ → List ℕ
line_begin core gap = codes "core " ++ (decimal core ++ gap)

-- how much of the lane is somebody's, in tenths of a percent
unfoldable pub line_end : List ℕ → ℕ → List ℕ
line_end gap share = gap ++ (decimal (share / 10) ++ (codes "." ++ (decimal (share % 10) ++ codes " %\n")))

-- the line of a core: its number, its columns, and how much of its lane is somebody's
abbrev pub lane_line : Frame → ℕ → ℕ → ℕ → ℕ → List Bar → List ℕ
lane_line f columns vcpus core share bars = line_begin core (gap_behind core)
    ++ (texts_below (cell_at f columns vcpus bars) columns ++ line_end (gap_before share) share)

-- the line of a number, of which the first is this core's
abbrev pub lane_line_at : Frame → ℕ → ℕ → ℕ → List (List Bar) → ℕ → List ℕ
lane_line_at f columns vcpus first lanes i = lane_line f columns vcpus (first + i)
    (per_mille (held_in f (slice_index_or lanes i [])) (f.to - f.from)) (slice_index_or lanes i [])

-- ---- the text

-- a name after a letter, and what is after the name
unfoldable pub letter_key_name : List ℕ → List ℕ → List ℕ
letter_key_name name gap = codes "=" ++ (name ++ gap)

-- what is after the name of a number: the end of the line after each eighth and the last, else a space
abbrev pub key_gap : ℕ → ℕ → List ℕ
key_gap vcpus v = if (v % 8 == 7) || (v + 1 == vcpus) then codes "\n" else codes " "

-- so many of the vCPUs have a letter of their own: those below 52
abbrev pub lettered : ℕ → ℕ
lettered vcpus = min 52 vcpus

-- the letter of the vCPU of a number, and its name
abbrev pub letter_key_at : List (List ℕ) → ℕ → List ℕ
letter_key_at names v = letter_of v ∷ letter_key_name (name_at names v) (key_gap (lettered (length names)) v)

-- how many vCPUs have no letter of their own
unfoldable pub more_line : ℕ → List ℕ → List ℕ
more_line more many = codes "#=" ++ (decimal more ++ (codes " more vCPU" ++ (many ++ codes "\n")))

-- how many vCPUs have no letter of their own, where there are some
abbrev pub more_vcpus_text : ℕ → List ℕ
more_vcpus_text vcpus = if nat_lt 52 vcpus then more_line (vcpus - 52) (plural (vcpus - 52)) else []

-- the title and the line below it
abbrev pub title_lines : Head → List ℕ
title_lines h = title_text h ++ (codes "\n" ++ (sub_text h ++ codes "\n"))

-- the text of these lanes of vCPUs of these names, below what the head says
abbrev pub lanes_text : TextOptions → Frame → Head → List (List ℕ) → List (List Bar) → List ℕ
lanes_text options f h names lanes = title_lines h
    ++ (texts_below (lane_line_at f options.columns (length names) options.first lanes) (length lanes)
    ++ (texts_below (letter_key_at names) (lettered (length names)) ++ more_vcpus_text (length names)))

-- the text of these lanes of a view
abbrev pub view_text : TextOptions → Frame → View → List (List Bar) → List ℕ
view_text options f view lanes = lanes_text options f (head_in f view lanes) view.names.items lanes

-- a text has the lanes and ticks of a picture by core
abbrev pub by_core : TextOptions → ChartOptions
by_core options = record {
  by_vcpu = false;
  first = options.first;
  last = options.last;
  from = options.from;
  to = options.to;
  width = options.columns;
  tick_ns = options.tick_ns;
  picture = 0;
}

-- the text of a view
abbrev pub text_chart : TextOptions → View → List ℕ
text_chart options view = view_text options (frame_of view (by_core options)) view (chart_lanes view (by_core options))
