use Rattle.std.proofs.Common.{◌≡◌}
use Rattle.std.specs.Prelude.{take}
use Rattle.table_form.specs.Running.State.{State}
use Rattle.burst_bound.specs.Inside.Counting.{run_on}
use Rattle.burst_bound.specs.KeptRuns.{IsKeptRun}
use Rattle.burst_bound.proofs.counting.ticks_between.Given as goal

-- what the cores so far give
abbrev pub invariant-loop-core : goal.invariant-loop-core
invariant-loop-core l = (s : State) → IsKeptRun l.fn.course l.fn.rounds l.fn.crew s
    → l.ticks ≡ run_on l.fn.vcpu l.fn.from l.fn.end (take l.core s.cores)
