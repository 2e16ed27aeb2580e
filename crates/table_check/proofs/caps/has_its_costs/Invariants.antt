use Rattle.std.proofs.Common.{◌≡◌, ℕ, ◌<◌}
use Rattle.table_check.specs.Inside.Counters.{count_at}
use Rattle.table_check.proofs.caps.has_its_costs.Given as goal

abbrev pub invariant-loop-period_no : goal.invariant-loop-period_no
invariant-loop-period_no l = (j : ℕ) → j < l.period_no → count_at l.counters l.vcpu j ≡ l.task.cost
