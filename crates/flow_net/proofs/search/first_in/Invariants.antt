use Rattle.std.proofs.Common.{◌≡◌, ℕ, ◌+◌, ◌<◌}
use Rattle.flow_net.specs.Rows.{ticks_at}
use Rattle.flow_net.proofs.search.first_in.Given as goal

abbrev pub invariant-loop-k : goal.invariant-loop-k
invariant-loop-k g l = record {
  none : (j : ℕ) → j < l.k → ticks_at l.lacks.items l.v j ≡ 0;
  cost : l.steps ≡ l.initial.steps + l.k;
}
