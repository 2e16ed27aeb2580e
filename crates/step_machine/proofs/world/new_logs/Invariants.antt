use Rattle.std.proofs.Common.{◌≤◌, ◌-◌, length}
use Rattle.std.specs.Prelude.{vec_capacity, vec_len}
use Rattle.step_machine.specs.Inside.Logs.{AreLogsNew}
use Rattle.step_machine.proofs.world.new_logs.Given as goal

abbrev pub invariant-filling : goal.invariant-filling
invariant-filling l = record {
  new : AreLogsNew (length l.logs.items) l.rounds l.turns l.logs.items;
  within : vec_len l.logs ≤ l.cores;
  room : l.cores ≤ vec_capacity l.logs;
}

abbrev pub decreases-filling : goal.decreases-filling
decreases-filling l = l.cores - vec_len l.logs
