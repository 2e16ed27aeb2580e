-- A wait is within a latency where its ticks are within the slack of the chosen budgets.
use Rattle.std.proofs.Common.{ℕ, ◌+◌, ◌-◌, ◌*◌, ◌≤◌, max, sym, subst, arith}
use Rattle.std.proofs.Math.Nat.{mul-le-mul_left}
use Rattle.tab_core.specs.Budgets.{slack_of}
use Rattle.tab_core.specs.declared.periodic.Periodic.{Periodic}
use Rattle.tab_core.specs.declared.reservation.Reservation.{Reservation}
use Rattle.period_choice.specs.Choice.{IsChosen}

-- half of two times that are within two latencies, in numbers
half_of_two : (tick ticks s t l m : ℕ) → ticks ≤ s + t → 2 * s * tick ≤ l → 2 * t * tick ≤ m
    → tick * ticks ≤ max l m
half_of_two tick ticks s t l m most first last = (let times = mul-le-mul_left tick most in omega arith)

-- the chosen budget's slack, twice, is within the latency
twice_slack : (r : Reservation) (tick : ℕ) (task : Periodic) → IsChosen r tick task
    → 2 * slack_of task * tick ≤ r.latency_ns
twice_slack r tick task is =
    subst (λ c. 2 * (task.period - c) * tick ≤ r.latency_ns) (sym is.cost_is) is.admissible.in_time

-- a wait within two slacks is within the greater latency
pub within_latency : (r t : Reservation) (tick : ℕ) (first last : Periodic) (ticks : ℕ)
    → IsChosen r tick first → IsChosen t tick last → ticks ≤ slack_of first + slack_of last
    → tick * ticks ≤ max r.latency_ns t.latency_ns
within_latency r t tick first last ticks of_first of_last most =
    half_of_two tick ticks (slack_of first) (slack_of last) r.latency_ns t.latency_ns most
    (twice_slack r tick first of_first) (twice_slack t tick last of_last)
