use Rattle.std.proofs.Common.{◌≡◌, [], replicate}
use Rattle.view_lanes.proofs.lanes.empty_lanes.Given as goal

-- the lanes so far
abbrev pub invariant-loop : goal.invariant-loop
invariant-loop l = l.lanes.items ≡ replicate l.counter []
