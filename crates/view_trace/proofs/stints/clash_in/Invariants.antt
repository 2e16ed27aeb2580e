use Rattle.std.proofs.Common.{[], take}
use Rattle.view_trace.specs.Stints.{AreClear}
use Rattle.view_trace.proofs.StintLemmas.{AreEnds}
use Rattle.view_trace.proofs.stints.clash_in.Given as goal

-- the stints so far don't clash, and when the last of them ends on each CPU
abbrev pub invariant-loop-stint : goal.invariant-loop-stint
invariant-loop-stint l = record {
  ends : AreEnds l.ends (take l.stint-index l.stints);
  clear : AreClear [] (take l.stint-index l.stints);
}
