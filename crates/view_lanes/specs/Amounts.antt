-- The numbers in texts: times and shares.
use Rattle.std.specs.Prelude.{ℕ, ◌*◌, ◌/◌}

-- so many ticks in tenths of a millisecond, rounded down; a tick has so many nanoseconds
abbrev pub tenths_ms : ℕ → ℕ → ℕ
tenths_ms tick t = t * tick / 100000

-- a part of a whole in tenths of a percent, rounded down
abbrev pub per_mille : ℕ → ℕ → ℕ
per_mille part whole = part * 1000 / whole
