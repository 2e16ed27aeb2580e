use Rattle.table_form.specs.Tables.Views.{plan_view}
use Rattle.kernel_tables.specs.TablesText.{HasRows, IsVcpuRow}
use Rattle.kernel_tables.proofs.rows.vcpu_rows.Given as goal

-- the rows of the vCPUs so far came
abbrev pub invariant-loop-vcpu : goal.invariant-loop-vcpu
invariant-loop-vcpu l = HasRows (IsVcpuRow (plan_view l.plan) l.tick_ns) l.vcpu l.text.items
