use Rattle.std.proofs.Common.{◌≡◌, ◌*◌, ◌≤◌, ◌^◌, take}
use Rattle.std.specs.List.{sum_by}
use Rattle.view_lanes.specs.Shown.{held_in}
use Rattle.view_lanes.proofs.lanes.share_in.Given as goal

-- the ticks so far
abbrev pub invariant-loop-lane : goal.invariant-loop-lane
invariant-loop-lane l = record {
  value : l.total ≡ sum_by (held_in l.frame) (take l.lane-index l.lanes);
  small : l.total ≤ l.lane-index * 2 ^ 32;
}
