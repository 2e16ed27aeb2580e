use Rattle.std.proofs.Common.{drop}
use Rattle.view_trace.specs.Inside.Walks.{HasWalked}
use Rattle.view_trace.proofs.stints.stints_of.Given as goal

-- the walk has gone back to this mark
abbrev pub invariant-loop-i : goal.invariant-loop-i
invariant-loop-i l = HasWalked l.end_ns (drop l.i l.marks) l.next l.stints.items
