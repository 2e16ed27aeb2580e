use Rattle.std.proofs.Common.{◌≡◌, length}
use Rattle.view_lanes.specs.Colours.{has_foot, tones_below}
use Rattle.view_lanes.proofs.tones.tones_of.Given as goal

-- the tones so far
abbrev pub invariant-loop-v : goal.invariant-loop-v
invariant-loop-v l = record {
  count : length l.tones.items ≡ l.v;
  value : l.tones.items ≡ tones_below (has_foot l.is_run l.figures) l.colours l.v;
}
