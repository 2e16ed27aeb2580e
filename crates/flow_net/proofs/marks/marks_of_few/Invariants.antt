use Rattle.std.proofs.Common.{◌-◌}
use Rattle.tab_core.specs.declared.TheConstants.{ROUND}
use Rattle.flow_net.specs.Inside.Marking.{AreMarksTo}
use Rattle.flow_net.proofs.marks.marks_of_few.Given as goal

abbrev pub invariant-loop-tick : goal.invariant-loop-tick
invariant-loop-tick l = AreMarksTo l.periods l.marks.items l.tick

abbrev pub decreases-loop-tick : goal.decreases-loop-tick
decreases-loop-tick l = ROUND - l.tick
