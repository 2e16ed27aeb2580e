use Rattle.std.proofs.Common.{◌≡◌, length}
use Rattle.view_lanes.specs.Colours.{core_names}
use Rattle.view_lanes.proofs.tones.core_names.Given as goal

-- the names so far
abbrev pub invariant-loop-core : goal.invariant-loop-core
invariant-loop-core l = record {
  count : length l.names.items ≡ l.core;
  value : l.names.items ≡ core_names l.core;
}
