use Rattle.std.proofs.Common.{◌≡◌, ◌≤◌, length}
use Rattle.std.specs.Prelude.{vec_capacity}
use Rattle.core_workers.specs.Inside.Making.{ArePlayersNew}
use Rattle.core_workers.proofs.crew.make_cores.Given as goal

abbrev pub invariant-loop-core : goal.invariant-loop-core
invariant-loop-core l = record {
  new : ArePlayersNew l.fn.course l.fn.rounds l.fn.keep l.cores.items;
  count : length l.cores.items ≡ l.core;
  room : l.fn.course.cores ≤ vec_capacity l.cores;
}
