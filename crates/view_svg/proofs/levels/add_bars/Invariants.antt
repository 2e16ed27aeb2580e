use Rattle.std.proofs.Common.{◌≡◌, ◌+◌, ℕ, ◌<◌, length, min, take}
use Rattle.std.specs.Prelude.{◌==◌, slice_index}
use Rattle.view_lanes.specs.Columns.{sum_of, width_at}
use Rattle.view_svg.proofs.levels.add_bars.Given as goal

-- the ticks so far
abbrev pub invariant-loop-bar : goal.invariant-loop-bar
invariant-loop-bar l = record {
  count : length l.ticks ≡ l.columns;
  added : (j : ℕ) → j < l.columns → slice_index l.ticks j ≡ min (width_at l.frame l.columns j)
      (slice_index l.fn.ticks j + sum_of (λ w. w == l.v) l.frame l.columns (take l.bar-index l.bars) j);
}
