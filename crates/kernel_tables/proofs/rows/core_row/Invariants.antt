use Rattle.std.proofs.Common.{◌-◌, ◌≤◌}
use Rattle.tab_core.specs.declared.TheConstants.{ROUND}
use Rattle.table_form.specs.Tables.Plans.{PlanView}
use Rattle.slice_table.specs.Slices.{IsTableOf}
use Rattle.kernel_tables.specs.TablesText.{AreSpanLines}
use Rattle.kernel_tables.proofs.rows.core_row.Given as goal

-- the lines up to the place came
abbrev pub invariant-spans : goal.invariant-spans
invariant-spans l = record {
  within : l.place ≤ ROUND;
  counted : l.count ≤ l.place;
  lines : (plan : PlanView) → IsTableOf plan l.core l.table
      → AreSpanLines plan l.tick_ns l.words l.core l.place l.count l.lines.items;
}

abbrev pub decreases-spans : goal.decreases-spans
decreases-spans l = ROUND - l.place
