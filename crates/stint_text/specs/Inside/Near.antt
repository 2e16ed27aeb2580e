-- The segment of a row that holds a tick.
use Rattle.std.specs.Prelude.{◌≡◌, ℕ, suc, ◌<◌, ◌≤◌, List, length, slice_index_or}
use Rattle.table_form.specs.declared.segment.Segment.{Segment}

-- the segment at the place ends after the tick, and the one before it doesn't
pub record CoversTick (segments : List Segment) (place tick : ℕ) : Type 0 where
  pub inside : place < length segments
  pub begun : (j : ℕ) (d : Segment) → suc j ≡ place → (slice_index_or segments j d).end ≤ tick
  pub ends : (d : Segment) → tick < (slice_index_or segments place d).end
