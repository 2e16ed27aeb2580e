use Rattle.std.proofs.Common.{◌≡◌, ◌*◌, ◌≤◌}
use Rattle.view_table.specs.Totals.{busy_below}
use Rattle.view_table.proofs.totals.busy_below.Given as goal

abbrev pub invariant-loop-core : goal.invariant-loop-core
invariant-loop-core l = record { value : l.ticks ≡ busy_below l.view.slots.items l.core; small : l.ticks ≤ l.core * 4294967295 }
