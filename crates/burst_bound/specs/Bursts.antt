-- A burst: work for a vCPU that arrives with an event. When all cores have seen it, when it is done, and a
-- bound on that.
-- Source: the rules of this project; the bound is that of whole budgets of a periodic task, counted from the
-- first period that begins once the burst is seen.
use Rattle.std.specs.Prelude.{◌≡◌, ℕ, ◌+◌, ◌-◌, ◌*◌, ◌/◌, ◌<◌, ◌≤◌, IsTrue, List, Option, Some, length}
use Rattle.std.specs.Int.{div_ceil}
use Rattle.tab_core.specs.VcpuSets.{has_vcpu}
use Rattle.tab_core.specs.declared.TheConstants.{ROUND}
use Rattle.tab_core.specs.declared.periodic.Periodic.{Periodic}
use Rattle.tab_core.specs.declared.stint.Stint.{Stint}
use Rattle.table_form.specs.Promises.Capped.{ticks_run}
use Rattle.table_form.specs.Running.Courses.{CourseView, runnable_after}
use Rattle.table_form.specs.Promises.Offered.{task_in}
use Rattle.table_form.specs.Running.State.{State, CoreState, IsCore}
use Rattle.table_form.specs.Promises.Together.{Covers}

-- from the tick on each core's stint has seen the event, of which the number is given
abbrev pub IsSeenFrom : State → ℕ → ℕ → Type 0
IsSeenFrom s event x = (c y : ℕ) (core : CoreState) (st : Stint) → IsCore s c core → Covers core y st
    → x ≤ y → event < st.seen

-- the least such tick, which lies in the run
pub record IsSeenAt (rounds : ℕ) (s : State) (event x : ℕ) : Type 0 where
  pub in_run : x < rounds * ROUND
  pub seen : IsSeenFrom s event x
  pub least : (y : ℕ) → IsSeenFrom s event y → x ≤ y

-- work that counts from tick x on is done before this tick of the run: from x up to it the vCPU runs at so
-- many ticks, on any core, and up to none before it
pub record IsDoneAt (rounds : ℕ) (s : State) (vcpu work x done : ℕ) : Type 0 where
  pub in_run : done ≤ rounds * ROUND
  pub after : x ≤ done
  pub enough : work ≤ ticks_run s vcpu x (done - x)
  pub least : (e : ℕ) → x ≤ e → work ≤ ticks_run s vcpu x (e - x) → done ≤ e

-- a task that was found has this cost in each of its periods, in ticks, and this period
pub record IsBudget (found : Option Periodic) (cost period : ℕ) : Type 0 where
  pub task : Periodic
  pub is : found ≡ Some task
  pub cost_is : task.cost ≡ cost
  pub period_is : task.period ≡ period

-- the plan of the round gives the vCPU this budget; the rounds have these used counts
abbrev pub HasBudget : CourseView → List ℕ → ℕ → ℕ → ℕ → ℕ → Type 0
HasBudget course decided r vcpu cost period = IsBudget (task_in course decided r vcpu) cost period

-- the end of as many whole periods as the work needs, counted from the first that begins after x
abbrev pub end_of_periods : ℕ → ℕ → ℕ → ℕ → ℕ
end_of_periods x work cost period = (x / period + 1 + div_ceil work cost) * period

-- that end is the bound if it lies in the run, the plan of each round up to it gives the vCPU the budget that
-- the round of x gives, and the vCPU is runnable after each count of events that has the burst
pub record IsBurstBound (course : CourseView) (rounds : ℕ) (decided : List ℕ) (event vcpu work x bound : ℕ)
    : Type 0 where
  pub cost : ℕ
  pub period : ℕ
  pub first : HasBudget course decided (x / ROUND) vcpu cost period
  pub bound_is : bound ≡ end_of_periods x work cost period
  pub in_run : bound ≤ rounds * ROUND
  pub keeps : (r : ℕ) → x < (r + 1) * ROUND → r * ROUND < bound → HasBudget course decided r vcpu cost period
  pub runnable : (n : ℕ) → event < n → n ≤ length course.ticks
      → IsTrue (has_vcpu (runnable_after course n) vcpu)
