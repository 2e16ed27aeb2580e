-- A host's trace as a text for terminals: that of a run, with its times in ns.
use Rattle.std.specs.Prelude.{ℕ, ◌++◌, List, codes, length}
use Rattle.tab_words.specs.Texts.{texts_below}
use Rattle.view_doc.specs.declared.view.View.{View}
use Rattle.view_lanes.specs.Shown.{trace_frame, trace_lanes}
use Rattle.view_lanes.specs.Titles.{head_in, trace_sub, trace_title}
use Rattle.view_lanes.specs.declared.frame.Bar.{Bar}
use Rattle.view_lanes.specs.declared.frame.Frame.{Frame}
use Rattle.view_lanes.specs.declared.titles.Head.{Head}
use Rattle.view_text.specs.TextCharts.{by_core, lane_line_at, letter_key_at, lettered, more_vcpus_text}
use Rattle.view_text.specs.declared.options.TextOptions.{TextOptions}

-- the lines above those of cores, where a tick has so many ns
abbrev pub trace_lines : Head → ℕ → List ℕ
trace_lines h tick = trace_title h ++ (codes "\n" ++ (trace_sub h tick ++ codes "\n"))

-- the text of these lanes of vCPUs of these names, below what the head says
abbrev pub trace_lanes_text : TextOptions → Frame → Head → List (List ℕ) → List (List Bar) → List ℕ
trace_lanes_text options f h names lanes = trace_lines h f.tick
    ++ (texts_below (lane_line_at f options.columns (length names) options.first lanes) (length lanes)
    ++ (texts_below (letter_key_at names) (lettered (length names)) ++ more_vcpus_text (length names)))

-- the text of these lanes of a trace
abbrev pub view_trace_text : TextOptions → Frame → View → List (List Bar) → List ℕ
view_trace_text options f view lanes = trace_lanes_text options f (head_in f view lanes) view.names.items lanes

-- the text of a trace that ends at a tick
abbrev pub shown_trace_text : TextOptions → ℕ → View → List ℕ
shown_trace_text options end view = view_trace_text options (trace_frame (by_core options) end) view
    (trace_lanes (by_core options) (trace_frame (by_core options) end) view)
