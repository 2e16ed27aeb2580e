use Rattle.std.proofs.Common.{◌≡◌, length}
use Rattle.view_lanes.specs.Colours.{core_tones}
use Rattle.view_lanes.proofs.tones.core_tones.Given as goal

-- the tones so far
abbrev pub invariant-loop-core : goal.invariant-loop-core
invariant-loop-core l = record {
  count : length l.tones.items ≡ l.core;
  value : l.tones.items ≡ core_tones l.core;
}
