use Rattle.std.proofs.Common.{◌≡◌, length}
use Rattle.view_lanes.specs.Colours.{belongs_to_core, colours_below}
use Rattle.view_lanes.proofs.colours.colours_of.Given as goal

-- the colours so far
abbrev pub invariant-loop-v : goal.invariant-loop-v
invariant-loop-v l = record {
  count : length l.colours.items ≡ l.v;
  value : l.colours.items ≡ colours_below (belongs_to_core l.stretches l.tasks) l.vcpus l.v;
}
