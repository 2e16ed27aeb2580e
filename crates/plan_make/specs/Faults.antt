-- What the refusals of a host's plan tell.
use Rattle.cd_split.specs.declared.fault.SplitFault.{SplitFault}
use Rattle.cd_split.specs.declared.fault.SplitFault.TheVariants as split
use Rattle.period_choice.specs.declared.fault.TaskFault.{TaskFault}
use Rattle.period_choice.specs.declared.fault.TaskFault.TheVariants as task
use Rattle.plan_make.specs.declared.fault.PlanFault.{PlanFault}
use Rattle.plan_make.specs.declared.fault.PlanFault.TheVariants as plan

-- a refusal of splitting, as one of planning
abbrev pub fault_of_split : SplitFault → PlanFault
fault_of_split (split.NoRoom vcpu rest over) = plan.NoRoom vcpu rest over
fault_of_split split.NoMemory = plan.NoMemory

-- a refusal of the choice of periods, as one of planning
abbrev pub fault_of_tasks : TaskFault → PlanFault
fault_of_tasks (task.NoPeriod vcpu) = plan.NoPeriod vcpu
fault_of_tasks task.NoMemory = plan.NoMemory
