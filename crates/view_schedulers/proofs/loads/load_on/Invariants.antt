use Rattle.std.proofs.Common.{◌≡◌, ◌≤◌, ◌*◌, take}
use Rattle.std.specs.List.{sum_by}
use Rattle.view_schedulers.specs.Budgets.{part_on}
use Rattle.view_schedulers.specs.declared.TheConstants.{PARTS}
use Rattle.view_schedulers.proofs.loads.load_on.Given as goal

-- the parts of the tasks so far
abbrev pub invariant-loop-task : goal.invariant-loop-task
invariant-loop-task l = record {
  load : l.load ≡ sum_by (part_on l.scheduler l.tick_ns l.core) (take l.task-index l.tasks);
  small : l.load ≤ l.task-index * PARTS;
}
