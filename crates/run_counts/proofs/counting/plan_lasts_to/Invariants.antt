use Rattle.std.proofs.Common.{ℕ, ◌<◌, ◌≤◌}
use Rattle.run_counts.specs.Inside.Repeats.{HasSamePlan}
use Rattle.run_counts.proofs.counting.plan_lasts_to.Given as goal

-- the rounds so far have the same plan
abbrev pub invariant-loop-q : goal.invariant-loop-q
invariant-loop-q l = (p : ℕ) → l.r ≤ p → p < l.q → HasSamePlan l.course l.used l.r p
