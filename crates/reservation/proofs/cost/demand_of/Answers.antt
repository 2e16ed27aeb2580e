use Rattle.std.proofs.Common.{◌≡◌, ℕ, zero, suc, ◌*◌, ◌/◌, ◌≤◌, arith}
use Rattle.std.proofs.Math.Nat.{mul-le-mul}
use Rattle.tab_core.proofs.Periods.{period_facts}
use Rattle.reservation.proofs.cost.demand_of.Goals as goal

second_factor : (a b : ℕ) → a * b ≡ 102600 → 1 ≤ b
second_factor a zero is = absurd (omega arith)
second_factor a (suc b) is = omega arith

-- at least one tick, in at least one period
pub returns-clause-some : goal.returns-clause-some
returns-clause-some c =
    let task = c.args.task.now in
    let periods = second_factor task.period (102600 / task.period)
    (period_facts task.period task.listed).whole in
    mul-le-mul task.costs periods
