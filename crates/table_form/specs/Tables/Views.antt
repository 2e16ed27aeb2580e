-- What contracts see of a plan.
use Rattle.table_form.specs.Tables.Plans.{PlanView}
use Rattle.table_form.specs.declared.plan.Plan.{Plan}

-- a plan as contracts see it: its tasks, its capped vCPUs, its homes and its rows of cells
abbrev pub plan_view : Plan → PlanView
plan_view plan = record {
  tasks = plan.tasks;
  homes = plan.tables.homes;
  rows = plan.tables.rows;
  capped = plan.capped;
}
