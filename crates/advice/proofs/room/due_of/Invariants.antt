use Rattle.std.proofs.Common.{◌≡◌, ◌≤◌, ◌*◌, sum_by, take}
use Rattle.tab_core.specs.declared.TheConstants.{ROUND}
use Rattle.advice.specs.Room.{due_of_task}
use Rattle.advice.proofs.room.due_of.Given as goal

-- the sum of the tasks so far
abbrev pub invariant-loop-task : goal.invariant-loop-task
invariant-loop-task l = record {
  sum : l.due ≡ sum_by due_of_task (take l.task-index l.task-items);
  low : l.due ≤ l.task-index * ROUND;
}
