-- Budgets: what a vCPU gets of each period.
use Rattle.std.specs.Prelude.{ℕ, ◌-◌}
use Rattle.tab_core.specs.declared.periodic.Periodic.{Periodic}

-- the ticks of each period that the budget leaves out
abbrev pub slack_of : Periodic → ℕ
slack_of task = task.period - task.cost
