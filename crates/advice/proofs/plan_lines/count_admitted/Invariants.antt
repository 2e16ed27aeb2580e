use Rattle.std.proofs.Common.{◌≡◌, ◌≤◌, ◌+◌, drop, length}
use Rattle.advice.specs.PlanLines.{admitted_from}
use Rattle.advice.proofs.plan_lines.count_admitted.Given as goal

-- the count so far and those that are left are all
abbrev pub invariant-loop-task : goal.invariant-loop-task
invariant-loop-task l = record {
  all : l.count + length (admitted_from l.task-index (drop l.task-index l.tasks)) ≡ length (admitted_from 0 l.tasks);
  few : l.count ≤ l.task-index;
}
