use Rattle.std.proofs.Common.{◌≡◌, ◌≤◌, length}
use Rattle.std.specs.Prelude.{vec_capacity}
use Rattle.live_plan.specs.Inside.Crewing.{AreNewMembers}
use Rattle.live_plan.proofs.crew.make_members.Given as goal

abbrev pub invariant-loop-core : goal.invariant-loop-core
invariant-loop-core l = record {
  new : AreNewMembers l.fn.book l.fn.rounds l.members.items;
  count : length l.members.items ≡ l.core;
  room : l.cores ≤ vec_capacity l.members;
}
