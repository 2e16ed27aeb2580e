use Rattle.std.proofs.Common.{◌≡◌}
use Rattle.tab_core.specs.Sums.{total}
use Rattle.flow_net.specs.Rows.{ticks_at}
use Rattle.flow_net.proofs.opening.row_sum.Given as goal

abbrev pub invariant-loop-v : goal.invariant-loop-v
invariant-loop-v l = l.sum ≡ total (λ v. ticks_at l.rows.items l.i v) l.v
