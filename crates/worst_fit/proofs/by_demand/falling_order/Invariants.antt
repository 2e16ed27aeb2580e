use Rattle.std.proofs.Common.{◌≡◌, ◌++◌, drop}
use Rattle.worst_fit.specs.Order.{ranks_from}
use Rattle.worst_fit.proofs.by_demand.falling_order.Given as goal

-- the ranks so far, and those of the tasks that are left
abbrev pub invariant-loop-number : goal.invariant-loop-number
invariant-loop-number l = l.ranks.items ++ ranks_from l.number (drop l.number l.tasks) ≡ ranks_from 0 l.tasks
