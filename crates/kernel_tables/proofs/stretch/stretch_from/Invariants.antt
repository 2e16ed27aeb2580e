use Rattle.std.proofs.Common.{ℕ, ◌-◌, ◌<◌, ◌≤◌}
use Rattle.tab_core.specs.declared.TheConstants.{ROUND}
use Rattle.table_form.specs.Tables.Views.{plan_view}
use Rattle.kernel_tables.specs.Stretches.{IsAt}
use Rattle.kernel_tables.proofs.stretch.stretch_from.Given as goal

-- the vCPU is there up to the end
abbrev pub invariant-growing : goal.invariant-growing
invariant-growing l = record {
  after : l.place < l.stretch.end;
  within : l.stretch.end ≤ ROUND;
  there : (x : ℕ) → l.place ≤ x → x < l.stretch.end → IsAt (plan_view l.plan) l.vcpu x l.stretch.core;
}

abbrev pub decreases-growing : goal.decreases-growing
decreases-growing l = ROUND - l.stretch.end
