use Rattle.std.proofs.Common.{◌≡◌, flat_map, take}
use Rattle.run_trace.specs.RunTraces.{turns_of}
use Rattle.run_trace.proofs.turns.turns_in.Given as goal

-- the turns of the stints so far are there
abbrev pub invariant-loop-stint : goal.invariant-loop-stint
invariant-loop-stint l = l.turns.items ≡ flat_map turns_of (take l.stint-index l.stints)
