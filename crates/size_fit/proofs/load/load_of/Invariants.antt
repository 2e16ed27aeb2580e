use Rattle.size_fit.proofs.LoadLemmas.{Counts}
use Rattle.size_fit.proofs.load.load_of.Given as goal

-- the segments before this one are counted
abbrev pub invariant-loop-segment : goal.invariant-loop-segment
invariant-loop-segment l = Counts l.parts l.segment-index l.from l.load
