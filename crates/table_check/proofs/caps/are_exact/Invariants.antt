use Rattle.std.proofs.Common.{ℕ, ◌<◌}
use Rattle.table_check.proofs.Exact.{IsExactBy}
use Rattle.table_check.proofs.caps.are_exact.Given as goal

abbrev pub invariant-loop-vcpu : goal.invariant-loop-vcpu
invariant-loop-vcpu l = (w : ℕ) → w < l.vcpu → IsExactBy l.tasks l.capped l.counters w
