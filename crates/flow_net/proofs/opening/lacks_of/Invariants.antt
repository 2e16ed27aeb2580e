use Rattle.std.proofs.Common.{◌≡◌, ℕ, ◌+◌, ◌<◌, length}
use Rattle.flow_net.specs.Load.{given, jobs}
use Rattle.flow_net.specs.Flows.{flow_of}
use Rattle.flow_net.specs.Rows.{row_at, ticks_at}
use Rattle.flow_net.specs.Inside.Demanded.{load}
use Rattle.flow_net.proofs.opening.lacks_of.Given as goal

abbrev pub invariant-loop-v : goal.invariant-loop-v
invariant-loop-v l = record {
  len : length l.lacks.items ≡ l.v;
  widths : (w : ℕ) → w < l.v → length (row_at l.lacks.items w) ≡ jobs (load l.demands) w;
  due : (w k : ℕ) → w < l.v → k < jobs (load l.demands) w
      → ticks_at l.lacks.items w k + given (load l.demands) (flow_of l.rows.items) w k
      ≡ (load l.demands).cost w;
}
