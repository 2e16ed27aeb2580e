use Rattle.std.proofs.Common.{◌≤◌}
use Rattle.live_plan.specs.Crews.{IsMakerOf}
use Rattle.live_plan.proofs.maker.plan_all.Given as goal

abbrev pub invariant-loop-told : goal.invariant-loop-told
invariant-loop-told g l = record {
  maker : IsMakerOf l.fn.book l.maker;
  told : l.told ≤ l.maker.planner.next;
}
