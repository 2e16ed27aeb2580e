use Rattle.std.proofs.Common.{◌≡◌, ◌+◌, ◌<◌, ℕ, [], length, take}
use Rattle.std.specs.Prelude.{slice_index_or}
use Rattle.view_lanes.specs.Shown.{lane_bars}
use Rattle.view_lanes.proofs.lanes.lanes_from.Given as goal

-- each lane has the bars of the stretches so far
abbrev pub invariant-loop-stretch : goal.invariant-loop-stretch
invariant-loop-stretch l = record {
  count : length l.lanes.items ≡ l.count;
  bars : (i : ℕ) → i < l.count
      → slice_index_or l.lanes.items i [] ≡ lane_bars l.frame (take l.stretch-index l.stretches) (l.first + i);
}
