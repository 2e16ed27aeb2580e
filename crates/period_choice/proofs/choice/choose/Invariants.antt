use Rattle.std.proofs.Common.{◌-◌}
use Rattle.period_choice.proofs.ChoiceLemmas.{IsBestSoFar}
use Rattle.period_choice.proofs.choice.choose.Given as goal

-- the best of the last entries
abbrev pub invariant-loop-i : goal.invariant-loop-i
invariant-loop-i l = IsBestSoFar l.r l.tick_ns (65 - l.i) l.best
