-- How far the marks of periods are made.
use Rattle.std.specs.Prelude.{◌≡◌, ℕ, ◌+◌, ◌-◌, ◌*◌, ◌<◌, ◌≤◌, Contains, List, length, slice_index}
use Rattle.tab_core.specs.declared.TheConstants.{ROUND}
use Rattle.flow_net.specs.Allotments.{IsMultiple}

-- each number of a list is in the other
abbrev pub AreAmong : List ℕ → List ℕ → Type 0
AreAmong ns others = (n : ℕ) → Contains ns n → Contains others n

-- the round's end or the first multiple of one of the first `n` periods after the tick
pub record IsNextMark (periods : List ℕ) (tick n mark : ℕ) : Type 0 where
  pub after : tick < mark
  pub within : mark ≤ ROUND
  pub each : mark < ROUND → IsMultiple periods mark
  pub inside : (v k : ℕ) → v < n → tick < k * slice_index periods v → mark ≤ k * slice_index periods v

-- marks as far as the last of them
pub record AreMarksTo (periods marks : List ℕ) (tick : ℕ) : Type 0 where
  pub some : 0 < length marks
  pub first : slice_index marks 0 ≡ 0
  pub last : slice_index marks (length marks - 1) ≡ tick
  pub within : tick ≤ ROUND
  pub rise : (i : ℕ) → i + 1 < length marks → slice_index marks i < slice_index marks (i + 1)
  pub each : (i : ℕ) → 0 < i → i < length marks → slice_index marks i < ROUND
      → IsMultiple periods (slice_index marks i)
  pub inside : (i v k : ℕ) → i + 1 < length marks → v < length periods
      → slice_index marks i < k * slice_index periods v
      → slice_index marks (i + 1) ≤ k * slice_index periods v
