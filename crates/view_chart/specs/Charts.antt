-- A view as a picture, in SVG: a lane for each core or vCPU, with boxes for its slots or stints.
-- Source: Scalable Vector Graphics (SVG) 1.1, W3C Recommendation.
use Rattle.std.specs.Prelude.{ℕ, ◌+◌, ◌++◌, List, [], Option, codes, if◌then◌else◌, length, slice_index_or}
use Rattle.tab_words.specs.Texts.{texts_below}
use Rattle.view_doc.specs.declared.view.View.{View}
use Rattle.view_doc.specs.Views.{shown_in}
use Rattle.view_table.specs.declared.figures.Figures.{Figures}
use Rattle.view_svg.specs.Drawings.{PaletteView, VcpusView}
use Rattle.view_svg.specs.Frames.{foot_of, height_of, pitch_of, top_of}
use Rattle.view_svg.specs.LanePictures.{lane_text}
use Rattle.view_svg.specs.Lanes.{ground_box}
use Rattle.view_svg.specs.declared.drawing.Band.{Band}
use Rattle.view_chart.specs.Axes.{axis_text}
use Rattle.view_chart.specs.Heads.{head_text}
use Rattle.view_chart.specs.Legends.{legend_end, legend_text, listed_in}
use Rattle.view_chart.specs.Rounds.{rounds_text}
use Rattle.view_lanes.specs.Colours.{core_names, core_tones, vcpu_tones}
use Rattle.view_lanes.specs.Shown.{chart_lanes, cores_in, frame_of}
use Rattle.view_lanes.specs.Titles.{head_in}
use Rattle.view_lanes.specs.declared.frame.Bar.{Bar}
use Rattle.view_lanes.specs.declared.frame.ChartOptions.{ChartOptions}
use Rattle.view_lanes.specs.declared.frame.Frame.{Frame}

-- ---- lanes

-- where the lane of a number is of so many lanes
abbrev pub band_at : Frame → ℕ → ℕ → Band
band_at f lanes i = record {
  frame = f;
  y = top_of lanes i;
  high = height_of lanes;
}

-- the lane of a number, of which the first is this core's or vCPU's
abbrev pub lane_at : Frame → ℕ → VcpusView → PaletteView → List (List Bar) → ℕ → List ℕ
lane_at f first of p lanes i =
    lane_text of (first + i) (band_at f (length lanes) i) p (slice_index_or lanes i [])

-- the grounds of the lanes
abbrev pub grounds_text : ℕ → List ℕ
grounds_text n = codes "<path class=\"lane\" d=\""
    ++ (texts_below (ground_box (height_of n) (pitch_of n)) n ++ codes "\"/>\n")

-- ---- the picture

-- how tall a picture of so many lanes and listed keys is
abbrev pub tall_of : ℕ → ℕ → ℕ
tall_of lanes vcpus = legend_end (foot_of lanes) vcpus + 1000

-- what is known of a view's vCPUs
abbrev pub vcpus_in : View → Figures → List (Option ℕ) → VcpusView
vcpus_in view figures promises = record {
  names = view.names.items;
  figures = figures;
  promises = promises;
}

-- a picture of these lanes of a view: this is known of the vCPUs, and the keys of the bars are shown so
unfoldable pub chart_of : ChartOptions → Frame → View → VcpusView → PaletteView → List (List Bar) → List ℕ
chart_of options f view of p lanes =
    head_text options.width (tall_of (length lanes) (listed_in lanes p.names)) (head_in f view lanes)
    ++ (grounds_text (length lanes)
    ++ (axis_text f (foot_of (length lanes))
    ++ (texts_below (lane_at f options.first of p lanes) (length lanes)
    ++ (rounds_text f f.is_run (shown_in view) (foot_of (length lanes))
    ++ (legend_text f (foot_of (length lanes)) p lanes ++ codes "</svg>\n")))))

-- how vCPUs are shown as keys of bars
abbrev pub vcpu_palette : View → Figures → PaletteView
vcpu_palette view figures = record {
  names = view.names.items;
  tasks = view.tasks.items;
  colours = vcpu_tones view figures;
}

-- how cores are shown as keys of bars, which have no tasks
abbrev pub core_palette : View → PaletteView
core_palette view = record {
  names = core_names (cores_in view);
  tasks = [];
  colours = core_tones (cores_in view);
}

-- the picture of a view with a lane for each core that is shown
abbrev pub cores_chart : ChartOptions → View → Figures → List (Option ℕ) → List ℕ
cores_chart options view figures promises = chart_of options (frame_of view options) view
    (vcpus_in view figures promises) (vcpu_palette view figures) (chart_lanes view options)

-- the picture of a view with a lane for each vCPU that is shown
abbrev pub vcpus_chart : ChartOptions → View → Figures → List (Option ℕ) → List ℕ
vcpus_chart options view figures promises = chart_of options (frame_of view options) view
    (vcpus_in view figures promises) (core_palette view) (chart_lanes view options)

-- the picture of a view: with lanes of cores, or of vCPUs
abbrev pub chart_text : ChartOptions → View → Figures → List (Option ℕ) → List ℕ
chart_text options view figures promises =
    if options.by_vcpu then vcpus_chart options view figures promises
    else cores_chart options view figures promises
