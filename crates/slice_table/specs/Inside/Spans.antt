-- The ends of a row's spans, and what a table keeps over them.
use Rattle.std.specs.Prelude.{◌≡◌, ℕ, ◌+◌, ◌<◌, ◌≤◌, List, length, slice_index}
use Rattle.tab_core.specs.declared.TheConstants.{ROUND}
use Rattle.slice_table.specs.Slices.{AreSlices, IsShortest, begin_at}

-- each span has a tick, and the last one ends with the round
pub record AreEnds (ends : List ℕ) : Type 0 where
  pub some : 0 < length ends
  pub few : length ends ≤ ROUND
  pub rise : (k : ℕ) → k < length ends → begin_at ends k < slice_index ends k
  pub last : (k : ℕ) → k + 1 ≡ length ends → slice_index ends k ≡ ROUND
  pub within : (k : ℕ) → k < length ends → slice_index ends k ≤ ROUND

-- a table keeps slices of the shortest span's length over the spans of a round
pub record IsSliced (ticks : ℕ) (slices ends : List ℕ) : Type 0 where
  pub are_ends : AreEnds ends
  pub shortest : IsShortest ticks ends
  pub are_slices : AreSlices ticks slices ends

-- the tick is held by the span of the number, or has come past its end by less than so many ticks
pub record IsNear (ends : List ℕ) (ticks number tick : ℕ) : Type 0 where
  pub there : number < length ends
  pub begun : begin_at ends number ≤ tick
  pub soon : tick < slice_index ends number + ticks
