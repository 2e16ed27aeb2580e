use Rattle.std.proofs.Common.{◌≡◌, ℕ, ◌+◌, ◌<◌, ◌≤◌}
use Rattle.tab_core.specs.Sums.{total}
use Rattle.flow_net.specs.Load.{jobs}
use Rattle.flow_net.specs.Rows.{ticks_at}
use Rattle.flow_net.specs.Inside.Demanded.{load}
use Rattle.flow_net.specs.Counts.{jobs_due}
use Rattle.flow_net.proofs.search.first_lacking.Given as goal

abbrev pub invariant-loop-v : goal.invariant-loop-v
invariant-loop-v g l = record {
  none : (w k : ℕ) → w < l.v → k < jobs (load l.demands) w → ticks_at l.flow.lacks.items w k ≡ 0;
  cost : l.steps ≤ l.initial.steps + total (jobs_due (load l.demands)) l.v;
}
