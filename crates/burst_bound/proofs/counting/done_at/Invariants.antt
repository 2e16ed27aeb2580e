use Rattle.std.proofs.Common.{◌-◌, ◌≤◌}
use Rattle.table_form.specs.Running.State.{State}
use Rattle.burst_bound.specs.KeptRuns.{IsKeptRun}
use Rattle.burst_bound.proofs.DoneLemmas.{IsDoneWithin}
use Rattle.burst_bound.proofs.counting.done_at.Given as goal

-- the work is done within these two ticks
abbrev pub invariant-loop-low : goal.invariant-loop-low
invariant-loop-low l = record {
  order : l.low ≤ l.high;
  after : l.fn.seen ≤ l.low;
  in_run : l.high ≤ l.end;
  done : (s : State) → IsKeptRun l.fn.course l.fn.rounds l.fn.crew s
      → IsDoneWithin s l.fn.vcpu l.fn.work l.fn.seen l.low l.high;
}

abbrev pub decreases-loop-low : goal.decreases-loop-low
decreases-loop-low l = l.high - l.low
