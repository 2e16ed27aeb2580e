-- The axes of time above the lanes and of ticks below them: marks at round numbers, twelve steps at most.
use Rattle.std.specs.Prelude.{ℕ, ◌+◌, ◌-◌, ◌*◌, ◌/◌, ◌++◌, ◌&&◌, nat_le, nat_lt, List, [], ◌∷◌, codes, decimal, if◌then◌else◌, min}
use Rattle.tab_words.specs.Texts.{texts_below}
use Rattle.view_svg.specs.Frames.{x_at}
use Rattle.view_chart.specs.declared.axis.TheConstants.{STEPS}
use Rattle.view_lanes.specs.declared.frame.Frame.{Frame}

-- the first of the steps of which the span has twelve at most, and the greatest step where none is
abbrev pub step_in : ℕ → List ℕ → ℕ
step_in span [] = 2000000000
step_in span (step ∷ steps) = if nat_lt 0 step && nat_le (span / step) 12 then step else step_in span steps

-- the time of a tick in microseconds, rounded down
abbrev pub micros_at : Frame → ℕ → ℕ
micros_at f t = t * f.tick / 1000

-- the microseconds between two marks
abbrev pub step_of : Frame → ℕ
step_of f = step_in (micros_at f (f.to - f.from)) STEPS

-- the number of the first mark, in steps from time 0
abbrev pub first_mark : Frame → ℕ
first_mark f = (micros_at f f.from + (step_of f - 1)) / step_of f

-- the number after that of the last mark, in steps from time 0
abbrev pub end_mark : Frame → ℕ
end_mark f = micros_at f f.to / step_of f + 1

-- the tick of so many microseconds, or the last
abbrev pub axis_tick_at : Frame → ℕ → ℕ
axis_tick_at f us = min f.to (us * 1000 / f.tick)

-- where the mark of so many microseconds is
abbrev pub mark_at : Frame → ℕ → ℕ
mark_at f us = x_at f (axis_tick_at f us)

-- a line through the lanes
unfoldable pub grid_line : ℕ → ℕ → List ℕ
grid_line foot x = codes "M" ++ (decimal x ++ (codes " 9300V" ++ decimal (foot + 300)))

-- the number above a mark
unfoldable pub mark_text : ℕ → ℕ → List ℕ
mark_text x ms = codes "<text x=\"" ++ (decimal x
    ++ (codes "\" y=\"8900\" font-size=\"1000\" class=\"dim\" text-anchor=\"middle\">" ++ (decimal ms
    ++ codes "</text>\n")))

-- the axis's unit in microseconds: a millisecond where the step is one or more, else a microsecond
abbrev pub axis_unit : ℕ → ℕ
axis_unit step = if nat_le 1000 step then 1000 else 1

-- the word for the axis's unit
abbrev pub unit_word : ℕ → List ℕ
unit_word step = if nat_le 1000 step then codes "ms" else codes "us"

-- the line of the mark of a number, through the lanes that end there
abbrev pub grid_line_at : Frame → ℕ → ℕ → List ℕ
grid_line_at f foot k = grid_line foot (mark_at f ((first_mark f + k) * step_of f))

-- the number above the mark of a number, in the axis's unit
abbrev pub mark_number_at : Frame → ℕ → List ℕ
mark_number_at f k = mark_text (mark_at f ((first_mark f + k) * step_of f))
    ((first_mark f + k) * step_of f / axis_unit (step_of f))

-- the axis with so many marks
abbrev pub axis_of : Frame → ℕ → ℕ → List ℕ
axis_of f foot marks = codes "<path class=\"grid\" d=\"" ++ (texts_below (grid_line_at f foot) marks ++ (codes "\"/>\n"
    ++ (texts_below (mark_number_at f) marks ++ (codes "<text x=\"4000\" y=\"8900\" font-size=\"1000\" class=\"dim\">"
    ++ (unit_word (step_of f) ++ codes "</text>\n")))))

-- the axis above lanes that end there
abbrev pub time_axis : Frame → ℕ → List ℕ
time_axis f foot = axis_of f foot (end_mark f - first_mark f)

-- ---- ticks, below the lanes

-- the ticks between two marks of the axis of ticks
abbrev pub tick_step : Frame → ℕ
tick_step f = step_in (f.to - f.from) STEPS

-- the number of the first mark of the axis of ticks, in steps from tick 0
abbrev pub first_tick : Frame → ℕ
first_tick f = (f.from + (tick_step f - 1)) / tick_step f

-- the number after that of the last mark of the axis of ticks, in steps from tick 0
abbrev pub end_tick : Frame → ℕ
end_tick f = f.to / tick_step f + 1

-- a number below the lanes
unfoldable pub tick_text : ℕ → ℕ → ℕ → List ℕ
tick_text x y tick = codes "<text x=\"" ++ (decimal x ++ (codes "\" y=\"" ++ (decimal y
    ++ (codes "\" font-size=\"900\" class=\"dim\" text-anchor=\"middle\">" ++ (decimal tick ++ codes "</text>\n")))))

-- the tick of the mark of a number, below the lanes
abbrev pub tick_number : Frame → ℕ → ℕ → List ℕ
tick_number f y k = tick_text (x_at f ((first_tick f + k) * tick_step f)) y ((first_tick f + k) * tick_step f)

-- the word for the unit of the axis of ticks
unfoldable pub ticks_word : ℕ → List ℕ
ticks_word y = codes "<text x=\"4000\" y=\"" ++ (decimal y ++ codes "\" font-size=\"900\" class=\"dim\">ticks</text>\n")

-- the axis of ticks with so many marks
abbrev pub tick_axis_of : Frame → ℕ → ℕ → List ℕ
tick_axis_of f y marks = texts_below (tick_number f y) marks ++ ticks_word y

-- the axis of ticks below lanes that end there
abbrev pub tick_axis : Frame → ℕ → List ℕ
tick_axis f foot = tick_axis_of f (foot + 1300) (end_tick f - first_tick f)

-- the axis of time and the axis of ticks, of lanes that end there
abbrev pub axis_text : Frame → ℕ → List ℕ
axis_text f foot = time_axis f foot ++ tick_axis f foot
