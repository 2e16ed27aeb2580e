use Rattle.std.proofs.Common.{◌≡◌, drop, slice_get}
use Rattle.advice.specs.PlanLines.{admitted_from}
use Rattle.advice.proofs.plan_lines.admitted_at.Given as goal

-- the one that is looked for is so far after those that are left
abbrev pub invariant-loop-number : goal.invariant-loop-number
invariant-loop-number l = slice_get (admitted_from 0 l.tasks) l.behind
    ≡ slice_get (admitted_from l.number (drop l.number l.tasks)) l.left
