-- The bars that a column goes over: those before them and after them have nothing in it.
use Rattle.std.specs.Prelude.{ℕ, ◌+◌, ◌<◌, ◌≤◌, List, length, slice_index_or}
use Rattle.view_lanes.specs.declared.frame.Bar.{Bar}

-- no bar begins before the one before it
abbrev pub BarsRise : List Bar → Type 0
BarsRise bars = (i : ℕ) (d : Bar) → i + 1 < length bars → (slice_index_or bars i d).from ≤ (slice_index_or bars (i + 1) d).from

-- the bars before a place have nothing from a tick on
abbrev pub AreBefore : ℕ → List Bar → ℕ → Type 0
AreBefore tick bars place = (i : ℕ) (d : Bar) → i < place → (slice_index_or bars i d).end ≤ tick

-- those from a place on have nothing before a tick
abbrev pub AreBehind : ℕ → List Bar → ℕ → Type 0
AreBehind tick bars place = (i : ℕ) (d : Bar) → place ≤ i → i < length bars → tick ≤ (slice_index_or bars i d).from
