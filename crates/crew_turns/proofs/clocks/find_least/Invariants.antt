use Rattle.std.proofs.Common.{◌≡◌, ◌<◌, ◌≤◌}
use Rattle.std.specs.Prelude.{slice_index}
use Rattle.crew_turns.specs.Numbers.{IsFirst, IsLeastBut, IsLeastOfFirst}
use Rattle.crew_turns.proofs.clocks.find_least.Given as goal

abbrev pub invariant-loop-core : goal.invariant-loop-core
invariant-loop-core l = record {
  within : l.least.core < l.core;
  few : l.core ≤ l.fn.cores;
  low : l.low ≡ slice_index l.fn.ticks l.least.core;
  least : IsLeastOfFirst l.fn.ticks l.least.core l.core;
  first : IsFirst l.fn.ticks l.least.core;
  next : l.low ≤ l.least.next;
  others : IsLeastBut l.fn.ticks l.least.core l.core l.least.next;
}
