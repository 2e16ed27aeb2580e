-- What of a view is drawn: its lanes, by core or by vCPU, its stretches, and the ticks up to which it goes.
use Rattle.std.specs.Prelude.{ℕ, zero, suc, ◌++◌, ◌+◌, ◌-◌, ◌*◌, ◌/◌, ◌^◌, ◌==◌, ◌&&◌, ◌||◌, nat_le, nat_lt, Bool, true, false, not, List, [], ◌∷◌, if◌then◌else◌, flat_map, length, max, min, Option, Some, None}
use Rattle.std.specs.List.{list_any, sum_by}
use Rattle.tab_core.specs.declared.TheConstants.{ROUND}
use Rattle.view_doc.specs.declared.view.Stretch.{Stretch}
use Rattle.view_doc.specs.declared.view.Use.{Use}
use Rattle.view_doc.specs.declared.view.Use.TheVariants.{Idle, Slot, Shared}
use Rattle.view_doc.specs.declared.view.View.{View}
use Rattle.view_doc.specs.Views.{reach_of, shown_in}
use Rattle.view_lanes.specs.Amounts.{per_mille}
use Rattle.view_lanes.specs.declared.frame.Bar.{Bar}
use Rattle.view_lanes.specs.declared.frame.ChartOptions.{ChartOptions}
use Rattle.view_lanes.specs.declared.frame.Frame.{Frame}

-- the count of the cores: that of the plan's, or more where the run has more
abbrev pub cores_in : View → ℕ
cores_in view = max view.cores (reach_of (shown_in view))

-- where the last stretch ends
abbrev pub last_end : List Stretch → ℕ
last_end [] = 0
last_end (s ∷ ss) = max s.end (last_end ss)

-- how many rounds the stretches reach, and one at least
abbrev pub rounds_of : List Stretch → ℕ
rounds_of stretches = max 1 ((last_end stretches + (ROUND - 1)) / ROUND)

-- the tick at which the last of the rounds ends that the stretches reach; ticks are below 2^32
abbrev pub whole_of : List Stretch → ℕ
whole_of stretches = min (rounds_of stretches * ROUND) (2 ^ 32 - 1)

-- the tick that ends what is shown: the end of the last round, or an earlier one that was asked for
abbrev pub end_at : Option ℕ → ℕ → ℕ
end_at None whole = whole
end_at (Some tick) whole = min tick whole

-- the ticks that are shown
abbrev pub frame_of : View → ChartOptions → Frame
frame_of view options = record {
  from = options.from;
  to = end_at options.to (whole_of (shown_in view));
  tick = options.tick_ns;
  by_vcpu = options.by_vcpu;
  is_run = view.is_run;
  has_rounds = true;
  picture = options.picture;
}

-- the ticks that are shown of a host's trace, which ends at a tick
abbrev pub trace_frame : ChartOptions → ℕ → Frame
trace_frame options end = record {
  from = options.from;
  to = end_at options.to end;
  tick = options.tick_ns;
  by_vcpu = options.by_vcpu;
  is_run = true;
  has_rounds = false;
  picture = options.picture;
}

-- how many lanes there could be: one for each vCPU, or for each core
abbrev pub rows_in : View → ChartOptions → ℕ
rows_in view options = if options.by_vcpu then length view.names.items else cores_in view

-- how many lanes are shown: those that there could be, from the first to the last that were asked for
abbrev pub lanes_of : View → ChartOptions → ℕ
lanes_of view options = min (options.last + 1) (rows_in view options) - options.first

-- the vCPU has the ticks of the stretch
abbrev pub has_it : Use → ℕ → Bool
has_it Idle v = false
has_it (Slot owner) v = owner == v
has_it (Shared owner) v = owner == v

-- a stretch is on the lane of a core, or of a vCPU
abbrev pub is_on_lane : Bool → ℕ → Stretch → Bool
is_on_lane false row s = s.core == row
is_on_lane true row s = has_it s.by row

-- what tells the bars of a lane apart: the vCPU on a core's lane, the core on a vCPU's
abbrev pub key_of : Bool → Stretch → ℕ → ℕ
key_of false s vcpu = vcpu
key_of true s vcpu = s.core

-- the ticks of a stretch that are shown, if a vCPU has them
abbrev pub held_bars : Frame → Stretch → Use → List Bar
held_bars f s Idle = []
held_bars f s (Slot v) = (record {
  from = max s.from f.from;
  end = min s.end f.to;
  key = key_of f.by_vcpu s v;
  shared = false;
}) ∷ []
held_bars f s (Shared v) = (record {
  from = max s.from f.from;
  end = min s.end f.to;
  key = key_of f.by_vcpu s v;
  shared = true;
}) ∷ []

-- the bar of a stretch on a lane, if it has ticks there
abbrev pub bars_in : Frame → ℕ → Stretch → List Bar
bars_in f row s =
    if is_on_lane f.by_vcpu row s && (nat_lt s.from f.to && nat_lt f.from s.end) then held_bars f s s.by else []

-- the bars of a lane, in the order of the text
abbrev pub lane_bars : Frame → List Stretch → ℕ → List Bar
lane_bars f stretches row = flat_map (bars_in f row) stretches

-- nothing is shown: no tick, or no lane
abbrev pub shows_nothing : ChartOptions → View → Bool
shows_nothing options view =
    nat_le (frame_of view options).to (frame_of view options).from || (lanes_of view options == 0)

-- a lane of more than 342 bars is drawn in columns, another in boxes
abbrev pub is_dense : List Bar → Bool
is_dense bars = nat_lt 342 (length bars)

-- one of the lanes is drawn in columns
abbrev pub some_dense : List (List Bar) → Bool
some_dense lanes = list_any is_dense lanes

-- one of the lanes is drawn in boxes
abbrev pub some_boxes : List (List Bar) → Bool
some_boxes lanes = list_any (λ bars. not (is_dense bars)) lanes

-- how many ticks of a lane are somebody's: at most all
abbrev pub held_in : Frame → List Bar → ℕ
held_in f bars = min (f.to - f.from) (sum_by (λ bar. bar.end - bar.from) bars)

-- the bars of so many lanes, from this core or vCPU on
abbrev pub lanes_below : Frame → List Stretch → ℕ → ℕ → List (List Bar)
lanes_below f stretches first zero = []
lanes_below f stretches first (suc n) = lanes_below f stretches first n ++ lane_bars f stretches (first + n) ∷ []

-- the bars of the lanes that are shown of a view
abbrev pub chart_lanes : View → ChartOptions → List (List Bar)
chart_lanes view options =
    lanes_below (frame_of view options) (shown_in view) options.first (lanes_of view options)

-- the bars of the lanes that are shown of a host's trace in a frame
abbrev pub trace_lanes : ChartOptions → Frame → View → List (List Bar)
trace_lanes options f view = lanes_below f (shown_in view) options.first (lanes_of view options)

-- nothing is shown of a host's trace that ends at a tick: no tick, or no lane
abbrev pub shows_no_trace : ChartOptions → ℕ → View → Bool
shows_no_trace options end view =
    nat_le (trace_frame options end).to options.from || (lanes_of view options == 0)

-- how much of the lanes is somebody's
abbrev pub lanes_share : Frame → List (List Bar) → ℕ
lanes_share f lanes = per_mille (sum_by (held_in f) lanes) (length lanes * (f.to - f.from))
