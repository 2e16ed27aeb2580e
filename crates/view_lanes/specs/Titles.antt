-- The title of a picture or a text, and the line below it.
use Rattle.std.specs.Prelude.{ℕ, ◌==◌, ◌*◌, ◌/◌, ◌%◌, ◌++◌, Bool, true, false, List, [], codes, decimal, if◌then◌else◌, ◌-◌, length}
use Rattle.view_doc.specs.declared.view.Stretch.{Stretch}
use Rattle.view_doc.specs.declared.view.View.{View}
use Rattle.view_doc.specs.Views.{shown_in}
use Rattle.view_lanes.specs.Amounts.{tenths_ms}
use Rattle.view_lanes.specs.Shown.{cores_in, lanes_share, rounds_of, some_boxes, some_dense}
use Rattle.view_lanes.specs.declared.frame.Bar.{Bar}
use Rattle.view_lanes.specs.declared.frame.Frame.{Frame}
use Rattle.view_lanes.specs.declared.titles.Head.{Head}

-- what the head of a picture of these lanes says
unfoldable pub head_of : Frame → List Stretch → ℕ → ℕ → List (List Bar) → Head
head_of f stretches cores vcpus lanes = record {
  is_run = f.is_run;
  by_vcpu = f.by_vcpu;
  cores = cores;
  vcpus = vcpus;
  rounds = rounds_of stretches;
  stints = length stretches;
  from = f.from;
  to = f.to;
  lasting = tenths_ms f.tick (f.to - f.from);
  share = lanes_share f lanes;
  boxes = some_boxes lanes;
  columns = some_dense lanes;
  picture = f.picture;
}

-- what the head of a picture of these lanes of a view says
abbrev pub head_in : Frame → View → List (List Bar) → Head
head_in f view lanes = head_of f (shown_in view) (cores_in view) (length view.names.items) lanes

-- the letter of a plural, where there are more than one
abbrev pub plural : ℕ → List ℕ
plural n = if n == 1 then [] else codes "s"

-- what is shown, a plan or a run
abbrev pub kind_word : Bool → List ℕ
kind_word false = codes "Plan"
kind_word true = codes "Run"

-- what is said of the lanes where they aren't the cores'
abbrev pub lanes_word : Bool → List ℕ
lanes_word false = []
lanes_word true = codes ", by vCPU"

-- the title of a plan or a run of so many cores and vCPUs, each count with its letter of a plural
unfoldable pub title_of : List ℕ → ℕ → List ℕ → ℕ → List ℕ → List ℕ
title_of kind cores many vcpus more = kind ++ (codes " of " ++ (decimal cores ++ (codes " core" ++ (many
    ++ (codes ", " ++ (decimal vcpus ++ (codes " vCPU" ++ more)))))))

-- the title up to the count of vCPUs
abbrev pub kind_title : Head → List ℕ
kind_title h = title_of (kind_word h.is_run) h.cores (plural h.cores) h.vcpus (plural h.vcpus)

-- how many rounds and stints a run has
unfoldable pub counts_of : ℕ → List ℕ → ℕ → List ℕ → List ℕ
counts_of rounds many stints more = codes ", " ++ (decimal rounds ++ (codes " round" ++ (many ++ (codes ", "
    ++ (decimal stints ++ (codes " stint" ++ more))))))

-- how many rounds and stints a run has; nothing of a plan
abbrev pub counts_text : Bool → ℕ → ℕ → List ℕ
counts_text false rounds stints = []
counts_text true rounds stints = counts_of rounds (plural rounds) stints (plural stints)

-- the whole title: what is shown, its counts, and whose the lanes are
abbrev pub title_text : Head → List ℕ
title_text h = kind_title h ++ (counts_text h.is_run h.rounds h.stints ++ lanes_word h.by_vcpu)

-- which ticks are shown, and how long they last in tenths of a millisecond
unfoldable pub ticks_text : ℕ → ℕ → ℕ → List ℕ
ticks_text from to lasting = codes "Ticks " ++ (decimal from ++ (codes " to " ++ (decimal to ++ (codes ": "
    ++ (decimal (lasting / 10) ++ (codes "." ++ (decimal (lasting % 10) ++ codes " ms")))))))

-- how much of the shown ticks vCPUs have, in tenths of a percent
unfoldable pub share_text : ℕ → List ℕ
share_text share = codes ", of which vCPUs have " ++ (decimal (share / 10) ++ (codes "." ++ (decimal (share % 10)
    ++ codes " %.")))

-- what is on the lanes of vCPUs
abbrev pub lanes_note : Bool → List ℕ
lanes_note false = codes ". A line is the longest wait for a slot; right of it how long that is."
lanes_note true = codes ". The lanes are the vCPUs', the boxes the cores'."

-- the end of the line below the title: what is on the lanes of vCPUs, or how much of the lanes vCPUs have
abbrev pub sub_end : Head → List ℕ
sub_end h = if h.by_vcpu then lanes_note h.is_run else share_text h.share

-- the line below the title: which ticks are shown, how long they last, and what of them
abbrev pub sub_text : Head → List ℕ
sub_text h = ticks_text h.from h.to h.lasting ++ sub_end h

-- ---- a host's trace

-- the title of a trace up to the count of vCPUs
abbrev pub trace_kind : Head → List ℕ
trace_kind h = title_of (codes "Trace") h.cores (plural h.cores) h.vcpus (plural h.vcpus)

-- how many stints a trace has, with the letter of a plural
unfoldable pub stints_text : ℕ → List ℕ → List ℕ
stints_text stints many = codes ", " ++ (decimal stints ++ (codes " stint" ++ many))

-- the whole title of a trace: its counts, and whose the lanes are
abbrev pub trace_title : Head → List ℕ
trace_title h = trace_kind h ++ (stints_text h.stints (plural h.stints) ++ lanes_word h.by_vcpu)

-- which ns are shown, and how long they last in tenths of a millisecond
unfoldable pub title_times : ℕ → ℕ → ℕ → List ℕ
title_times from to lasting = decimal from ++ (codes " to " ++ (decimal to ++ (codes " ns: "
    ++ (decimal (lasting / 10) ++ (codes "." ++ (decimal (lasting % 10) ++ codes " ms"))))))

-- the line below the title of a trace whose ticks have so many ns: which ns are shown, how long they last, and what of
-- them
abbrev pub trace_sub : Head → ℕ → List ℕ
trace_sub h tick = title_times (h.from * tick) (h.to * tick) h.lasting ++ sub_end h
