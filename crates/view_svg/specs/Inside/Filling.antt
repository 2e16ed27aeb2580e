-- Columns of a lane while they are filled.
use Rattle.std.specs.Prelude.{◌≡◌, ℕ, ◌<◌, ◌≤◌, List, nat_lt, slice_index}
use Rattle.view_lanes.specs.Columns.{column_ticks, width_at}
use Rattle.view_lanes.specs.declared.frame.Bar.{Bar}
use Rattle.view_lanes.specs.declared.frame.Frame.{Frame}

-- each has at most the ticks that there are
abbrev pub AreCapped : Frame → ℕ → List ℕ → Type 0
AreCapped f columns ticks = (j : ℕ) → j < columns → slice_index ticks j ≤ width_at f columns j

-- each of 200 columns has the ticks of the vCPUs below one
abbrev pub AreTicksBelow : Frame → List Bar → ℕ → List ℕ → Type 0
AreTicksBelow f bars v ticks = (j : ℕ) → j < 200 → slice_index ticks j ≡ column_ticks (λ w. nat_lt w v) f 200 bars j
