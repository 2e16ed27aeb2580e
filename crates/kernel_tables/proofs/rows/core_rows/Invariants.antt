use Rattle.table_form.specs.Tables.Views.{plan_view}
use Rattle.kernel_tables.specs.TablesText.{HasRows, IsCoreRow}
use Rattle.kernel_tables.proofs.rows.core_rows.Given as goal

-- the rows of the cores so far came
abbrev pub invariant-loop-core : goal.invariant-loop-core
invariant-loop-core l = HasRows (IsCoreRow (plan_view l.plan) l.tick_ns l.words) l.core l.text.items
