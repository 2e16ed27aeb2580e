-- What a refusal of the choice of periods tells of whole-host planning.
use Rattle.period_choice.specs.declared.fault.TaskFault.{TaskFault}
use Rattle.period_choice.specs.declared.fault.TaskFault.TheVariants as task
use Rattle.wrap_table.specs.declared.fault.WholeFault.{WholeFault}
use Rattle.wrap_table.specs.declared.fault.WholeFault.TheVariants as whole

-- a refusal of the choice of periods, as one of whole-host planning
abbrev pub whole_fault_of_tasks : TaskFault → WholeFault
whole_fault_of_tasks (task.NoPeriod vcpu) = whole.NoPeriod vcpu
whole_fault_of_tasks task.NoMemory = whole.NoMemory
