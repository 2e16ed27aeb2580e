-- The boxes of a lane: one for each bar, but in a picture of a run one for the stints of a slot that follow one
-- another.
use Rattle.std.specs.Prelude.{◌==◌, ◌&&◌, ◌%◌, ◌++◌, Bool, not, List, [], ◌∷◌, if◌then◌else◌}
use Rattle.tab_core.specs.declared.TheConstants.{ROUND}
use Rattle.view_lanes.specs.declared.frame.Bar.{Bar}
use Rattle.view_lanes.specs.declared.frame.Frame.{Frame}

-- two bars of a run are in one box: both are a vCPU's on one core and not shared, the second begins where the first
-- ends, and no round begins there. These are of one slot, since in a round no two slots of a vCPU are beside each
-- other on a core
abbrev pub is_one_box : Frame → Bar → Bar → Bool
is_one_box f bar next = f.is_run && (not bar.shared && (not next.shared
    && ((bar.key == next.key) && ((bar.end == next.from) && not (f.has_rounds && (next.from % ROUND == 0))))))

-- the boxes of a bar and of the bars after it, which have these: the first of them begins with the bar if both are in
-- one box, and otherwise the bar is a box of its own
abbrev pub boxes_with : Frame → Bar → List Bar → List Bar
boxes_with f bar [] = bar ∷ []
boxes_with f bar (box ∷ boxes) =
    if is_one_box f bar box then (record box { from = bar.from }) ∷ boxes else bar ∷ (box ∷ boxes)

-- the boxes of these bars
abbrev pub boxes_of : Frame → List Bar → List Bar
boxes_of f [] = []
boxes_of f (bar ∷ bars) = boxes_with f bar (boxes_of f bars)

-- of the bars after one those that begin in a box: each that is in one with the bar before it
abbrev pub seams_after : Frame → Bar → List Bar → List Bar
seams_after f bar [] = []
seams_after f bar (next ∷ bars) = (if is_one_box f bar next then next ∷ [] else []) ++ seams_after f next bars

-- of these bars those that begin in a box
abbrev pub seams_of : Frame → List Bar → List Bar
seams_of f [] = []
seams_of f (bar ∷ bars) = seams_after f bar bars
