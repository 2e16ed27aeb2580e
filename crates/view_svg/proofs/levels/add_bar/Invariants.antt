use Rattle.std.proofs.Common.{◌≡◌, ◌+◌, ℕ, ◌<◌, ◌≤◌, length, min}
use Rattle.std.specs.Prelude.{slice_index}
use Rattle.view_lanes.specs.Columns.{ticks_in, width_at}
use Rattle.view_svg.proofs.levels.add_bar.Given as goal

-- the columns so far have them, and the others are as they were
abbrev pub invariant-loop-j : goal.invariant-loop-j
invariant-loop-j l = record {
  count : length l.ticks ≡ l.columns;
  added : (k : ℕ) → k < l.j → k < l.columns → slice_index l.ticks k
      ≡ min (width_at l.frame l.columns k) (slice_index l.fn.ticks k + ticks_in l.frame l.columns k l.bar);
  rest : (k : ℕ) → l.j ≤ k → slice_index l.ticks k ≡ slice_index l.fn.ticks k;
}
