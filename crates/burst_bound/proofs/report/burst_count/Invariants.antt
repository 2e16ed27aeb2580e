use Rattle.std.proofs.Common.{◌≤◌}
use Rattle.burst_bound.proofs.ScriptBurstLemmas.{BurstsSoFar}
use Rattle.burst_bound.proofs.report.burst_count.Given as goal

-- so many bursts are among the events so far
abbrev pub invariant-loop-i : goal.invariant-loop-i
invariant-loop-i l = record {
  so_far : BurstsSoFar l.events l.i l.count;
  few : l.count ≤ l.i;
}
