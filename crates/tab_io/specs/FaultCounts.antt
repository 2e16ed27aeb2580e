-- Counts of faults, which every source and every sink keeps.
use Rattle.std.specs.Prelude.{ℕ, ◌+◌, ◌-◌, ◌^◌, ◌≤◌, min}

-- the count after one more fault: it is once it is at its last value
abbrev pub next_count : ℕ → ℕ
next_count before = min (before + 1) (2 ^ 64 - 1)

-- a count of faults rose, or is at its last value
abbrev pub Rose : ℕ → ℕ → Type 0
Rose before now = next_count before ≤ now
