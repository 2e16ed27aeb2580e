-- A lane as columns of ticks: where each begins, and how many of its ticks the vCPUs have.
use Rattle.std.specs.Prelude.{ℕ, ◌+◌, ◌-◌, ◌*◌, ◌/◌, Bool, List, if◌then◌else◌, max, min}
use Rattle.std.specs.List.{sum_by}
use Rattle.view_lanes.specs.declared.frame.Bar.{Bar}
use Rattle.view_lanes.specs.declared.frame.Frame.{Frame}

-- where the column of a number begins, of so many: the first tick that isn't left of it
abbrev pub edge_of : Frame → ℕ → ℕ → ℕ
edge_of f columns j = f.from + (j * (f.to - f.from) + (columns - 1)) / columns

-- how many ticks a column has
abbrev pub width_at : Frame → ℕ → ℕ → ℕ
width_at f columns j = edge_of f columns (j + 1) - edge_of f columns j

-- how many ticks of a bar are between two ticks
abbrev pub overlap : ℕ → ℕ → Bar → ℕ
overlap first last bar = min bar.end last - max bar.from first

-- how many ticks of a bar are in the column of a number, of so many
abbrev pub ticks_in : Frame → ℕ → ℕ → Bar → ℕ
ticks_in f columns j bar = overlap (edge_of f columns j) (edge_of f columns (j + 1)) bar

-- how many ticks of a column the bars have whose keys pass the test
abbrev pub sum_of : (ℕ → Bool) → Frame → ℕ → List Bar → ℕ → ℕ
sum_of some f columns bars j = sum_by (λ bar. if some bar.key then ticks_in f columns j bar else 0) bars

-- how many ticks of a column the bars have whose keys pass the test: at most as many as the column has
abbrev pub column_ticks : (ℕ → Bool) → Frame → ℕ → List Bar → ℕ → ℕ
column_ticks some f columns bars j = min (width_at f columns j) (sum_of some f columns bars j)
