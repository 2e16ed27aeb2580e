-- Periods and budgets in a scheduler's unit of time, and the parts of a core that they come to.
-- Source: of Linux, kernel/sched/deadline.c and its page "Deadline Task Scheduling" (a runtime of 1024 ns at least,
-- sched_deadline_period_min_us and _max_us, sched_rt_runtime_us of sched_rt_period_us); of Xen,
-- xen/common/sched/rt.c (a period and a budget of 10 us at least); of quotas, kernel/sched/core.c, tg_set_cfs_bandwidth
-- (a period and a quota of 1 ms at least, a period of 1 s at most).
use Rattle.std.specs.Prelude.{ℕ, ◌+◌, ◌-◌, ◌*◌, ◌/◌, ◌==◌, ◌&&◌, nat_le, Bool, true, false, if◌then◌else◌, List}
use Rattle.std.specs.Int.{div_ceil}
use Rattle.std.specs.List.{sum_by}
use Rattle.tab_core.specs.declared.TheConstants.{ROUND}
use Rattle.view_doc.specs.declared.view.Task.{Task}
use Rattle.view_schedulers.specs.declared.TheConstants.{PARTS}
use Rattle.view_schedulers.specs.declared.scheduler.Scheduler.{Scheduler}
use Rattle.view_schedulers.specs.declared.scheduler.Scheduler.TheVariants.{Rtds, Deadline, FullDeadline, Quota}

-- ---- schedulers

-- the nanoseconds of a scheduler's unit of time
abbrev pub unit_of : Scheduler → ℕ
unit_of Rtds = 1000
unit_of Deadline = 1
unit_of FullDeadline = 1
unit_of Quota = 1000

-- the least period that a scheduler takes, in its unit of time
abbrev pub least_period : Scheduler → ℕ
least_period Rtds = 10
least_period Deadline = 100000
least_period FullDeadline = 100000
least_period Quota = 1000

-- the greatest period that a scheduler takes, in its unit of time
abbrev pub most_period : Scheduler → ℕ
most_period Rtds = 4294967295
most_period Deadline = 4194304000
most_period FullDeadline = 4194304000
most_period Quota = 1000000

-- the least budget that a scheduler takes, in its unit of time
abbrev pub least_budget : Scheduler → ℕ
least_budget Rtds = 10
least_budget Deadline = 1024
least_budget FullDeadline = 1024
least_budget Quota = 1000

-- the parts of a core that a scheduler gives away: all, or 95 percent
abbrev pub parts_of : Scheduler → ℕ
parts_of Rtds = PARTS
parts_of Deadline = PARTS / 100 * 95
parts_of FullDeadline = PARTS
parts_of Quota = PARTS

-- whether a scheduler sets out to give each budget in each period, by which no wait is longer than what
-- the budgets leave of two
abbrev pub bounds_wait : Scheduler → Bool
bounds_wait Rtds = true
bounds_wait Deadline = true
bounds_wait FullDeadline = true
bounds_wait Quota = false

-- ---- tasks

-- the period of a plan's task in the scheduler's unit of time, rounded down; a tick has so many nanoseconds
abbrev pub rounded_period : Scheduler → ℕ → Task → ℕ
rounded_period s tick t = t.period * tick / unit_of s

-- the cost of a plan's task in the scheduler's unit of time, rounded up; a tick has so many nanoseconds
abbrev pub rounded_cost : Scheduler → ℕ → Task → ℕ
rounded_cost s tick t = (t.cost * tick + (unit_of s - 1)) / unit_of s

-- how many periods of a task of this rounded cost make one on the scheduler: with quotas the fewest whose
-- costs together are the least quota, or more; else one
abbrev pub periods_of : Scheduler → ℕ → ℕ
periods_of Rtds cost = 1
periods_of Deadline cost = 1
periods_of FullDeadline cost = 1
periods_of Quota cost = if cost == 0 then 1 else div_ceil 1000 cost

-- the period that a plan's task has on the scheduler, in its unit of time; a tick has so many nanoseconds
abbrev pub period_on : Scheduler → ℕ → Task → ℕ
period_on s tick t = periods_of s (rounded_cost s tick t) * rounded_period s tick t

-- the budget that a plan's task has on the scheduler in each period there, in its unit of time
abbrev pub budget_on : Scheduler → ℕ → Task → ℕ
budget_on s tick t = periods_of s (rounded_cost s tick t) * rounded_cost s tick t

-- a task's cost is at least a tick and at most its period, and its period at most a round
abbrev pub is_task : Task → Bool
is_task t = nat_le 1 t.cost && (nat_le t.cost t.period && nat_le t.period ROUND)

-- a period and a budget that the scheduler takes
abbrev pub is_within : Scheduler → ℕ → ℕ → Bool
is_within s period budget =
    nat_le (least_period s) period && (nat_le period (most_period s) && nat_le (least_budget s) budget)

-- a period and a budget that the scheduler takes, and the budget is no longer than the period
abbrev pub fits_period : Scheduler → ℕ → ℕ → Bool
fits_period s period budget = is_within s period budget && nat_le budget period

-- the task has a period and a budget there
abbrev pub has_budget : Scheduler → ℕ → Task → Bool
has_budget s tick t = is_task t && fits_period s (period_on s tick t) (budget_on s tick t)

-- the task's part of a core in ten-thousandths, rounded up: what a weight is there
abbrev pub weight_of : Task → ℕ
weight_of t = if t.period == 0 then 1 else div_ceil (t.cost * 10000) t.period

-- ---- cores

-- a budget in each period as parts of a core, rounded up
abbrev pub part_of : ℕ → ℕ → ℕ
part_of period budget = (budget * PARTS + (period - 1)) / period

-- the parts of the core that a task is given there, if it is the task's home
abbrev pub part_on : Scheduler → ℕ → ℕ → Task → ℕ
part_on s tick core t = if (t.home == core) && has_budget s tick t
    then part_of (period_on s tick t) (budget_on s tick t) else 0

-- the parts of a core that are given
abbrev pub parts_given : Scheduler → ℕ → ℕ → List Task → ℕ
parts_given s tick core tasks = sum_by (part_on s tick core) tasks
