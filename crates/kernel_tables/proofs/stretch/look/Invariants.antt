use Rattle.std.proofs.Common.{◌≢◌, ℕ, ◌<◌, ◌≤◌, Some}
use Rattle.tab_core.specs.declared.TheConstants.{ROUND}
use Rattle.table_form.specs.Tables.Serves.{owner_at}
use Rattle.kernel_tables.proofs.stretch.look.Given as goal

-- the vCPU is in no row so far, up to the end
abbrev pub invariant-loop-number : goal.invariant-loop-number
invariant-loop-number l = record {
  after : l.place < l.end;
  within : l.end ≤ ROUND;
  none : (d x : ℕ) → d < l.number → l.place ≤ x → x < l.end → owner_at l.rows d x ≢ Some l.vcpu;
}
