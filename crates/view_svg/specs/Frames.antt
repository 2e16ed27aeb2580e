-- Where things are in a picture. One unit is a hundredth of a pixel; a picture of one round has a unit for
-- each tick. All divisions are rounded down.
use Rattle.std.specs.Prelude.{ℕ, ◌+◌, ◌-◌, ◌*◌, ◌/◌, nat_le, if◌then◌else◌, max, min}
use Rattle.tab_core.specs.declared.TheConstants.{ROUND}
use Rattle.view_lanes.specs.declared.frame.Frame.{Frame}

-- where a tick is, from the left
abbrev pub x_at : Frame → ℕ → ℕ
x_at f t = 9400 + (t - f.from) * ROUND / (f.to - f.from)

-- the right end of a lane
abbrev pub right_end : ℕ
right_end = 9400 + ROUND

-- the height of each of so many lanes
abbrev pub height_of : ℕ → ℕ
height_of lanes = 100 * max 14 (min 40 (560 / max 1 lanes))

-- how far it is from the top of a lane to that of the next, where there are so many lanes
abbrev pub pitch_of : ℕ → ℕ
pitch_of lanes = height_of lanes + height_of lanes / 5

-- where the lane of a number begins, of so many lanes
abbrev pub top_of : ℕ → ℕ → ℕ
top_of lanes i = 9800 + i * pitch_of lanes

-- where the last of so many lanes ends, with the gap below it
abbrev pub foot_of : ℕ → ℕ
foot_of lanes = top_of lanes lanes

-- the height of letters on lanes of a height
abbrev pub letters_of : ℕ → ℕ
letters_of high = if nat_le 2400 high then 1000 else if nat_le 1600 high then 900 else 800
