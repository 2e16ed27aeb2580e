use Rattle.flow_net.specs.Inside.Marking.{IsNextMark}
use Rattle.flow_net.proofs.marks.next_mark.Given as goal

abbrev pub invariant-loop-v : goal.invariant-loop-v
invariant-loop-v l = IsNextMark l.periods l.tick l.v l.mark
