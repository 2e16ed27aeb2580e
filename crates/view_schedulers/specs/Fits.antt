-- Cores that a plan fills just as far as a scheduler gives them away, of which none is said to be overbooked.
-- Source: the rules of this project. A budget is rounded up to parts of a core, so that its parts have to come out even.
use Rattle.std.specs.Prelude.{◌≡◌, ℕ, ◌*◌, ◌/◌, ◌≤◌, ◌==◌, true, if◌then◌else◌, List}
use Rattle.std.specs.List.{All, sum_by}
use Rattle.tab_core.specs.declared.TheConstants.{ROUND}
use Rattle.view_doc.specs.declared.view.Task.{Task}
use Rattle.view_schedulers.specs.declared.scheduler.Scheduler.{Scheduler}
use Rattle.view_schedulers.specs.declared.scheduler.Scheduler.TheVariants.{Rtds, Deadline, FullDeadline, Quota}
use Rattle.view_schedulers.specs.Budgets.{is_task, unit_of}

-- how much of a core a scheduler gives away, in percent
abbrev pub percent_of : Scheduler → ℕ
percent_of Rtds = 100
percent_of Deadline = 95
percent_of FullDeadline = 100
percent_of Quota = 100

-- a task of a plan, of whose periods a round is a whole number
pub record IsWhole (t : Task) : Type 0 where
  pub task : is_task t ≡ true
  pub divides : ROUND / t.period * t.period ≡ ROUND

-- a tick of so many nanoseconds is a whole number of the scheduler's units of time
pub record IsEven (s : Scheduler) (tick : ℕ) : Type 0 where
  pub units : ℕ
  pub are : tick ≡ units * unit_of s

-- the ticks that the task costs in a round, if the core is its home
abbrev pub ticks_at : ℕ → Task → ℕ
ticks_at core t = if t.home == core then t.cost * (ROUND / t.period) else 0

-- the tasks at home on the core cost no more ticks of a round than the scheduler gives away of the core
pub record FitsCore (s : Scheduler) (tick core : ℕ) (tasks : List Task) : Type 0 where
  pub even : IsEven s tick
  pub whole : All IsWhole tasks
  pub few : sum_by (ticks_at core) tasks * 100 ≤ percent_of s * ROUND
