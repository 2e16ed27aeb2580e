use Rattle.std.proofs.Common.{◌-◌}
use Rattle.table_check.proofs.MarkedWords.{IsRunMarked}
use Rattle.table_check.proofs.marks.mark_run.Given as goal

abbrev pub invariant-words : goal.invariant-words
invariant-words l = IsRunMarked l.initial.marks.items l.marks.items l.vcpu l.from l.tick

abbrev pub decreases-words : goal.decreases-words
decreases-words l = l.to - l.tick
