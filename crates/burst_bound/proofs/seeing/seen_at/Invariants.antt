use Rattle.table_form.specs.Running.State.{State}
use Rattle.burst_bound.specs.KeptRuns.{IsKeptRun}
use Rattle.burst_bound.specs.Inside.Seeing.{IsSeenBelow}
use Rattle.burst_bound.proofs.seeing.seen_at.Given as goal

-- the tick from which on the cores so far have seen the event
abbrev pub invariant-loop-core : goal.invariant-loop-core
invariant-loop-core l = (s : State) → IsKeptRun l.fn.course l.fn.rounds l.fn.crew s
    → IsSeenBelow s l.core l.fn.event l.latest
