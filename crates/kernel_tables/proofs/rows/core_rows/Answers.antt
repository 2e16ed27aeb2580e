use Rattle.std.proofs.Common.{ℕ, ◌+◌, List, subst, sym}
use Rattle.table_form.specs.Tables.Views.{plan_view}
use Rattle.kernel_tables.specs.TablesText.{HasRows, IsCoreRow}
use Rattle.kernel_tables.specs.TablesText.HasRows.{NoRow, Row}
use Rattle.kernel_tables.proofs.rows.core_rows.Goals as goal

pub loop-core-init : goal.loop-core-init
loop-core-init c =
    subst (λ (t : List ℕ). HasRows (IsCoreRow (plan_view c.args.plan.now) c.args.tick_ns c.args.words) 0 t)
    (sym c.new-text.ensures.items) NoRow

pub loop-core-preserved : goal.loop-core-preserved
loop-core-preserved c =
    let plan = plan_view c.args.plan.now in
    subst (λ (t : List ℕ). HasRows (IsCoreRow plan c.args.tick_ns c.args.words) (c.loop-core.core + 1) t)
    (sym c.in_ok-put_bytes.ensures)
    (Row c.loop-core.core c.loop-core.text.items c.deref.result.now c.loop-core.invariant
    (subst (λ (t : List ℕ). IsCoreRow plan c.args.tick_ns c.args.words c.loop-core.core t) (sym c.deref.ensures.value)
    (c.in_ok-row.ensures plan c.in_ok-table.ensures)))
