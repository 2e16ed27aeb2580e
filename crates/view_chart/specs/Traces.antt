-- A host's trace as a picture, in SVG: that of a run without its rounds, with its times in ns.
-- Source: Scalable Vector Graphics (SVG) 1.1, W3C Recommendation.
use Rattle.std.specs.Prelude.{ℕ, ◌+◌, ◌-◌, ◌*◌, ◌/◌, ◌++◌, Bool, true, false, if◌then◌else◌, List, [], codes, decimal, length}
use Rattle.tab_words.specs.Texts.{texts_below}
use Rattle.view_doc.specs.declared.view.View.{View}
use Rattle.view_table.specs.declared.figures.Figures.{Figures}
use Rattle.view_svg.specs.Drawings.{PaletteView}
use Rattle.view_svg.specs.Frames.{foot_of, x_at}
use Rattle.view_chart.specs.Axes.{end_tick, first_tick, tick_step, tick_text, time_axis}
use Rattle.view_chart.specs.Charts.{core_palette, grounds_text, lane_at, tall_of, vcpus_in}
use Rattle.view_chart.specs.Heads.{desc_begin, style_text, svg_begin, title_begin}
use Rattle.view_chart.specs.Legends.{legend_text, listed_in}
use Rattle.view_lanes.specs.Colours.{vcpu_tones}
use Rattle.view_lanes.specs.Shown.{trace_frame, trace_lanes}
use Rattle.view_lanes.specs.Titles.{head_in, trace_sub, trace_title}
use Rattle.view_lanes.specs.declared.frame.Bar.{Bar}
use Rattle.view_lanes.specs.declared.frame.ChartOptions.{ChartOptions}
use Rattle.view_lanes.specs.declared.frame.Frame.{Frame}
use Rattle.view_lanes.specs.declared.titles.Head.{Head}

-- ---- the head

-- what columns are, and how many ns each has
unfoldable pub trace_columns_text : ℕ → List ℕ
trace_columns_text ns = codes "<text x=\"146000\" y=\"5000\" font-size=\"900\" class=\"dim\" text-anchor=\"end\">Lanes of many boxes are columns of "
    ++ (decimal ns ++ codes " ns: each is as high as its part of them.</text>\n")

-- what columns are and how many ns each has, where some lane is drawn in columns
abbrev pub trace_columns : Bool → ℕ → List ℕ
trace_columns false ns = []
trace_columns true ns = trace_columns_text ns

-- the end of a trace's head, where a tick has so many ns: the key of columns
abbrev pub trace_end : Head → ℕ → List ℕ
trace_end h tick = codes "</text>\n" ++ trace_columns h.columns ((h.to - h.from) * tick / 200)

-- the head of a trace's picture that is so wide in pixels and so tall in units, where a tick has so many ns
abbrev pub trace_head : ℕ → ℕ → Head → ℕ → List ℕ
trace_head width tall h tick = svg_begin h.picture width (width * tall / 150000) tall
    ++ (trace_title h ++ (desc_begin h.picture ++ (trace_sub h tick ++ (style_text h.picture ++ (title_begin tall
    ++ (trace_title h ++ (codes "</text>\n<text x=\"4000\" y=\"5000\" font-size=\"1100\" class=\"dim\">"
    ++ (trace_sub h tick ++ trace_end h tick))))))))

-- ---- the axes

-- the ns of the mark of a number, below the lanes
abbrev pub ns_number : Frame → ℕ → ℕ → List ℕ
ns_number f y k = tick_text (x_at f ((first_tick f + k) * tick_step f)) y ((first_tick f + k) * tick_step f * f.tick)

-- the word for the unit of the axis of ns
unfoldable pub ns_word : ℕ → List ℕ
ns_word y = codes "<text x=\"4000\" y=\"" ++ (decimal y ++ codes "\" font-size=\"900\" class=\"dim\">ns</text>\n")

-- the axis of ns with so many marks
abbrev pub ns_axis_of : Frame → ℕ → ℕ → List ℕ
ns_axis_of f y marks = texts_below (ns_number f y) marks ++ ns_word y

-- the axis of ns below lanes that end there
abbrev pub ns_axis : Frame → ℕ → List ℕ
ns_axis f foot = ns_axis_of f (foot + 1300) (end_tick f - first_tick f)

-- the axis of time and the axis of ns, of lanes that end there
abbrev pub trace_axis : Frame → ℕ → List ℕ
trace_axis f foot = time_axis f foot ++ ns_axis f foot

-- ---- the picture

-- the picture of these lanes of a trace: the vCPUs have these figures, and the keys of the bars are shown so
unfoldable pub drawn_trace : ChartOptions → Frame → View → Figures → PaletteView → List (List Bar) → List ℕ
drawn_trace options f view figures p lanes =
    trace_head options.width (tall_of (length lanes) (listed_in lanes p.names)) (head_in f view lanes) f.tick
    ++ (grounds_text (length lanes)
    ++ (trace_axis f (foot_of (length lanes))
    ++ (texts_below (lane_at f options.first (vcpus_in view figures []) p lanes) (length lanes)
    ++ (legend_text f (foot_of (length lanes)) p lanes ++ codes "</svg>\n"))))

-- how vCPUs of a trace are shown as keys of bars: without tasks
abbrev pub traced_palette : View → Figures → PaletteView
traced_palette view figures = record {
  names = view.names.items;
  tasks = [];
  colours = vcpu_tones view figures;
}

-- the picture of a trace with a lane for each core that is shown
abbrev pub cores_trace : ChartOptions → Frame → View → Figures → List ℕ
cores_trace options f view figures =
    drawn_trace options f view figures (traced_palette view figures) (trace_lanes options f view)

-- the picture of a trace with a lane for each vCPU that is shown
abbrev pub vcpus_trace : ChartOptions → Frame → View → Figures → List ℕ
vcpus_trace options f view figures =
    drawn_trace options f view figures (core_palette view) (trace_lanes options f view)

-- the picture of a trace that ends at a tick: with lanes of cores, or of vCPUs
abbrev pub trace_chart : ChartOptions → ℕ → View → Figures → List ℕ
trace_chart options end view figures = if options.by_vcpu then vcpus_trace options (trace_frame options end) view figures
    else cores_trace options (trace_frame options end) view figures
