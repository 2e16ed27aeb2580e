use Rattle.std.proofs.Common.{◌≡◌}
use Rattle.view_lanes.specs.Colours.{some_below, stands_at, twice_below}
use Rattle.view_lanes.proofs.tones.is_split.Given as goal

-- whether one or two so far have it
abbrev pub invariant-loop-core : goal.invariant-loop-core
invariant-loop-core l = record {
  some : l.some ≡ some_below (stands_at l.figures l.v) l.core;
  twice : l.twice ≡ twice_below (stands_at l.figures l.v) l.core;
}
