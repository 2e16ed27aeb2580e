use Rattle.std.proofs.Common.{ℕ, ◌<◌}
use Rattle.table_check.proofs.Supplied.{IsServedBy}
use Rattle.table_check.proofs.shortage.first_shortage.Given as goal

abbrev pub invariant-loop-vcpu : goal.invariant-loop-vcpu
invariant-loop-vcpu l = (w : ℕ) → w < l.vcpu → IsServedBy l.tasks l.counters w
