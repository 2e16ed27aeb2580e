use Rattle.std.proofs.Common.{◌≡◌}
use Rattle.std.specs.Prelude.{take}
use Rattle.burst_bound.specs.Inside.Counting.{run_by}
use Rattle.burst_bound.proofs.counting.ticks_in.Given as goal

abbrev pub invariant-loop-stint : goal.invariant-loop-stint
invariant-loop-stint l = l.ticks ≡ run_by l.fn.vcpu l.fn.from l.fn.end (take l.stint-index l.stints)
