-- the ticks up to this one are counted
use Rattle.std.proofs.Common.{◌≡◌, ◌-◌, ◌≤◌, Some, length}
use Rattle.table_check.specs.Inside.Counters.{GrowBy, ticks_given}
use Rattle.table_check.proofs.counters.add_run.Given as goal

abbrev pub invariant-cutting : goal.invariant-cutting
invariant-cutting l = record {
  low : l.from ≤ l.tick;
  high : l.tick ≤ l.to;
  size : length l.counters.items ≡ length l.initial.counters.items;
  grown : GrowBy l.tasks (ticks_given (Some l.vcpu) l.from l.tick) l.initial.counters.items l.counters.items;
}

abbrev pub decreases-cutting : goal.decreases-cutting
decreases-cutting l = l.to - l.tick
