use Rattle.std.proofs.Common.{◌≡◌, ◌++◌, ◌≤◌, length, drop}
use Rattle.std.specs.Prelude.{vec_capacity}
use Rattle.run_counts.specs.RoundPlans.{plans_from, round_plans_of}
use Rattle.run_counts.proofs.round_plan.round_plans.Given as goal

-- what is listed, and what is still to list
abbrev pub invariant-loop-r : goal.invariant-loop-r
invariant-loop-r l = record {
  listed : l.plans.items ++ plans_from l.course l.r l.last (drop l.r l.used) ≡ round_plans_of l.course l.used;
  few : length l.plans.items ≤ l.r;
  room : vec_capacity l.plans ≡ vec_capacity l.fn.plans;
}
