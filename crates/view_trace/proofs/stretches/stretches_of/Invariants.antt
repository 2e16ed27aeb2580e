use Rattle.std.proofs.Common.{◌≡◌, map, take}
use Rattle.view_trace.specs.Traces.{AreLasting, stretch_of}
use Rattle.view_trace.proofs.stretches.stretches_of.Given as goal

-- the stints so far are stretches, and each has a tick
abbrev pub invariant-loop-stint : goal.invariant-loop-stint
invariant-loop-stint l = record {
  done : l.stretches.items ≡ map (stretch_of l.begin_ns l.tick_ns) (take l.stint-index l.stints);
  lasting : AreLasting l.stretches.items;
}
