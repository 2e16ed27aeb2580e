use Rattle.std.proofs.Common.{ℕ, ◌+◌, List, subst, sym}
use Rattle.table_form.specs.Tables.Views.{plan_view}
use Rattle.kernel_tables.specs.TablesText.{HasRows, IsVcpuRow}
use Rattle.kernel_tables.specs.TablesText.HasRows.{NoRow, Row}
use Rattle.kernel_tables.proofs.rows.vcpu_rows.Goals as goal

pub loop-vcpu-init : goal.loop-vcpu-init
loop-vcpu-init c =
    subst (λ (t : List ℕ). HasRows (IsVcpuRow (plan_view c.args.plan.now) c.args.tick_ns) 0 t)
    (sym c.new-text.ensures.items) NoRow

pub loop-vcpu-preserved : goal.loop-vcpu-preserved
loop-vcpu-preserved c =
    subst (λ (t : List ℕ). HasRows (IsVcpuRow (plan_view c.args.plan.now) c.args.tick_ns) (c.loop-vcpu.vcpu + 1) t)
    (sym c.in_ok-put_bytes.ensures)
    (Row c.loop-vcpu.vcpu c.loop-vcpu.text.items c.deref.result.now c.loop-vcpu.invariant
    (subst (λ (t : List ℕ). IsVcpuRow (plan_view c.args.plan.now) c.args.tick_ns c.loop-vcpu.vcpu t)
    (sym c.deref.ensures.value) c.in_ok-row.ensures))
