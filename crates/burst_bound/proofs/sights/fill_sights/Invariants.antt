use Rattle.std.proofs.Common.{◌≡◌, ℕ, ◌<◌, length}
use Rattle.std.specs.Prelude.{slice_index}
use Rattle.table_form.specs.Running.State.{State}
use Rattle.burst_bound.specs.Inside.Seeing.{IsSeenBelow}
use Rattle.burst_bound.specs.KeptRuns.{IsKeptRun}
use Rattle.burst_bound.proofs.sights.fill_sights.Given as goal

-- the cores so far have seen each event
abbrev pub invariant-loop-core : goal.invariant-loop-core
invariant-loop-core l = record {
  size : length l.sights ≡ length l.fn.sights;
  sights : (s : State) (event : ℕ) → IsKeptRun l.fn.course l.fn.rounds l.fn.crew s → event < length l.fn.sights
      → IsSeenBelow s l.core event (slice_index l.sights event);
}
