use Rattle.std.proofs.Common.{◌-◌}
use Rattle.host_judge.proofs.OwedLemmas.{NoneFrom}
use Rattle.host_judge.proofs.dues.hidden_by.Given as goal

-- none of the last entries is admissible
abbrev pub invariant-loop-i : goal.invariant-loop-i
invariant-loop-i l = NoneFrom l.r l.tick_ns (65 - l.i)
