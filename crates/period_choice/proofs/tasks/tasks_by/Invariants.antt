use Rattle.std.proofs.Common.{◌≡◌, length}
use Rattle.period_choice.specs.Inside.SoFar.{AreTasksSoFar}
use Rattle.period_choice.proofs.tasks.tasks_by.Given as goal

abbrev pub invariant-loop-number : goal.invariant-loop-number
invariant-loop-number l = record {
  as_many : length l.tasks.items ≡ l.number;
  each : AreTasksSoFar l.vcpus l.tick_ns l.tasks.items;
}
