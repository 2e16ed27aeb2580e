use Rattle.std.proofs.Common.{◌-◌, ◌≤◌}
use Rattle.tab_core.specs.declared.TheConstants.{ROUND}
use Rattle.table_form.specs.Tables.Views.{plan_view}
use Rattle.kernel_tables.specs.TablesText.{AreStretchLines}
use Rattle.kernel_tables.proofs.rows.vcpu_row.Given as goal

-- the lines up to the place came
abbrev pub invariant-stretches : goal.invariant-stretches
invariant-stretches l = record {
  within : l.place ≤ ROUND;
  counted : l.count ≤ l.place;
  lines : AreStretchLines (plan_view l.plan) l.tick_ns l.vcpu l.place l.count l.lines.items;
}

abbrev pub decreases-stretches : goal.decreases-stretches
decreases-stretches l = ROUND - l.place
