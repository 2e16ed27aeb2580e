-- What is said of bars and the boxes that they are in.
use Rattle.std.specs.Prelude.{◌≡◌, ◌≢◌, ℕ, ◌≤◌, ◌&&◌, nat_le, nat_lt, Bool, List, [], ◌∷◌}
use Rattle.view_svg.specs.Lanes.{is_bar_of}
use Rattle.view_lanes.specs.declared.frame.Bar.{Bar}

-- the bars of a key come one after the other from a tick on
abbrev pub AreInTurn : ℕ → ℕ → List Bar → Type 0
AreInTurn key tick [] = Unit {0}
AreInTurn key tick (bar ∷ bars) =
    (bar.key ≡ key → (tick ≤ bar.from) × (bar.from ≤ bar.end) × AreInTurn key bar.end bars)
    × (bar.key ≢ key → AreInTurn key tick bars)

-- a box has all ticks of the bar, and is of its key and way of running
abbrev pub is_in_box : Bar → Bar → Bool
is_in_box bar box = is_bar_of bar.key bar.shared box && (nat_le box.from bar.from && nat_le bar.end box.end)

-- a bar or box of this key and way of running has the tick
abbrev pub has_tick : ℕ → Bool → ℕ → Bar → Bool
has_tick key shared tick bar = is_bar_of key shared bar && (nat_le bar.from tick && nat_lt tick bar.end)
