-- What a bound is made of, and what the tests of it find.
use Rattle.std.specs.Prelude.{◌≡◌, ℕ, suc, ◌+◌, ◌*◌, ◌/◌, ◌<◌, ◌≤◌, List, IsTrue, Some, length, slice_index}
use Rattle.tab_core.specs.VcpuSets.{has_vcpu}
use Rattle.tab_core.specs.declared.TheConstants.{MAX_VCPUS, ROUND}
use Rattle.tab_core.specs.declared.periodic.Periodic.{Periodic}
use Rattle.table_form.specs.Running.Courses.{CourseView, plan_number_after, runnable_after}
use Rattle.table_form.specs.Promises.Offered.{task_in}
use Rattle.burst_bound.specs.Bursts.{HasBudget, end_of_periods}
use Rattle.burst_bound.specs.declared.bounding.BudgetEnd.{BudgetEnd}

-- the vCPU's budget in the round of the tick, and the end of as many of its periods as the work needs, in the run
pub record IsEndSince (course : CourseView) (rounds : ℕ) (used : List ℕ) (vcpu work seen : ℕ) (found : BudgetEnd)
    : Type 0 where
  pub there : task_in course used (seen / ROUND) vcpu ≡ Some found.task
  pub end : found.end ≡ end_of_periods seen work found.task.cost found.task.period
  pub in_run : found.end ≤ rounds * ROUND

-- each round from the first up to the end gives the vCPU the task's budget
abbrev pub KeepsBudget : CourseView → List ℕ → ℕ → Periodic → ℕ → ℕ → Type 0
KeepsBudget course used vcpu task first end = (r : ℕ) → first ≤ r → r < end
    → HasBudget course used r vcpu task.cost task.period

-- one of them doesn't
pub record LosesBudget (course : CourseView) (used : List ℕ) (vcpu : ℕ) (task : Periodic) (first end : ℕ)
    : Type 0 where
  pub round : ℕ
  pub low : first ≤ round
  pub high : round < end
  pub lost : ¬ (HasBudget course used round vcpu task.cost task.period)

-- the vCPU is runnable after each count of first events that has the event
abbrev pub StaysReady : CourseView → ℕ → ℕ → Type 0
StaysReady course event vcpu = (n : ℕ) → event < n → n ≤ length course.ticks
    → IsTrue (has_vcpu (runnable_after course n) vcpu)

-- after one of them it isn't
pub record StopsReady (course : CourseView) (event vcpu : ℕ) : Type 0 where
  pub count : ℕ
  pub low : event < count
  pub high : count ≤ length course.ticks
  pub blocked : ¬ (IsTrue (has_vcpu (runnable_after course count) vcpu))

-- the rounds from the first one up to this one have one plan
pub record IsSince (course : CourseView) (used : List ℕ) (r first : ℕ) : Type 0 where
  pub low : first ≤ r
  pub same : (q : ℕ) → first ≤ q → q ≤ r
      → plan_number_after course (slice_index used q) ≡ plan_number_after course (slice_index used r)

-- each round has a first one such that the rounds from it on have one plan
pub record AreSince (course : CourseView) (used since : List ℕ) : Type 0 where
  pub size : length since ≡ length used
  pub each : (r : ℕ) → r < length used → IsSince course used r (slice_index since r)

-- the vCPU is runnable after this count of first events and each greater one, and not after the one before
pub record IsReadyFrom (course : CourseView) (vcpu first : ℕ) : Type 0 where
  pub within : first ≤ length course.ticks + 1
  pub ready : (n : ℕ) → first ≤ n → n ≤ length course.ticks → IsTrue (has_vcpu (runnable_after course n) vcpu)
  pub blocked : (n : ℕ) → first ≡ suc n → ¬ (IsTrue (has_vcpu (runnable_after course n) vcpu))

-- there is such a count for each vCPU
pub record AreReady (course : CourseView) (ready : List ℕ) : Type 0 where
  pub size : length ready ≡ MAX_VCPUS
  pub each : (v : ℕ) → v < MAX_VCPUS → IsReadyFrom course v (slice_index ready v)
