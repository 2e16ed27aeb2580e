-- Whether a burst has a bound, by the tests that are made of it.
use Rattle.std.proofs.Common.{◌≡◌, ℕ, ◌+◌, ◌-◌, ◌*◌, ◌/◌, ◌<◌, ◌≤◌, inl, inr, List, length, get_or, Option, Some, None, refl, sym, ap, subst, ◌∙◌, min, ◌%◌, arith}
use Rattle.std.specs.Prelude.{slice_get, slice_index_or}
use Rattle.std.proofs.lemmas.Bool.{cases_lt}
use Rattle.std.proofs.lemmas.Grind.{div_ceil_times}
use Rattle.std.proofs.lemmas.Option.{slice_get-get_or}
use Rattle.tab_core.specs.declared.TheConstants.{ROUND}
use Rattle.tab_core.specs.declared.periodic.Periodic.{Periodic}
use Rattle.table_form.specs.Running.Courses.{CourseView, no_plan, plan_number_after}
use Rattle.table_form.specs.Promises.Offered.{task_by, task_in}
use Rattle.burst_bound.specs.Bursts.{HasBudget, IsBudget, IsBurstBound, end_of_periods}
use Rattle.table_form.specs.Tables.Serves.{flat}
use Rattle.burst_bound.specs.Inside.Bounding.{AreSince, IsReadyFrom, KeepsBudget, LosesBudget, StaysReady, StopsReady}

-- one budget is found
same_budget : (found : Option Periodic) (task : Periodic) (cost period : ℕ) → found ≡ Some task
    → IsBudget found cost period → (cost ≡ task.cost) × (period ≡ task.period)
same_budget found task cost period is budget =
    let same : budget.task ≡ task = cc (is, budget.is) in (
      sym budget.cost_is ∙ ap (λ (t : Periodic). t.cost) same,
      sym budget.period_is ∙ ap (λ (t : Periodic). t.period) same,
    )

-- the rounds that meet the ticks from x up to the bound are those from the one of x up to this one
round_within : (x bound r : ℕ) → x < (r + 1) * ROUND → r * ROUND < bound
    → (x / ROUND ≤ r) × (r < bound / ROUND + min 1 (bound % ROUND))
round_within x bound r low high = (omega arith, omega (arith, div_ceil_times bound ROUND (omega arith)))

-- each round from the one of x up to this one meets the ticks from x up to the bound
round_meets : (x bound r : ℕ) → x / ROUND ≤ r → r < bound / ROUND + min 1 (bound % ROUND)
    → (x < (r + 1) * ROUND) × (r * ROUND < bound)
round_meets x bound r low high = (omega arith, omega (arith, div_ceil_times bound ROUND (omega arith)))

module _ (course : CourseView) (rounds : ℕ) (used : List ℕ) (event vcpu work seen : ℕ) where
  -- the plan of the round in which it is seen doesn't hold the vCPU
  pub no_budget : (bound : ℕ) → task_in course used (seen / ROUND) vcpu ≡ None
      → IsBurstBound course rounds used event vcpu work seen bound → ⊥
  no_budget bound none is = (let at = is.first.is in absurd (cc (none, at)))

  -- the vCPU isn't runnable after some count
  pub ready_lost : (other : ℕ) → StopsReady course event vcpu
      → IsBurstBound course rounds used event vcpu work seen other → ⊥
  ready_lost other stops at = stops.blocked (at.runnable stops.count stops.low stops.high)

  module _ (task : Periodic) (there : task_in course used (seen / ROUND) vcpu ≡ Some task) where
    -- the bound is the end of whole periods of the budget there
    pub one_bound : (bound : ℕ) → IsBurstBound course rounds used event vcpu work seen bound
        → bound ≡ end_of_periods seen work task.cost task.period
    one_bound bound is =
        let same = same_budget (task_in course used (seen / ROUND) vcpu) task is.cost is.period there is.first in
        is.bound_is
        ∙ ap (λ (c : ℕ). end_of_periods seen work c is.period) same.0
        ∙ ap (λ (p : ℕ). end_of_periods seen work task.cost p) same.1

    -- it is the bound if all tests pass
    pub is_bound : (bound : ℕ) → bound ≡ end_of_periods seen work task.cost task.period → bound ≤ rounds * ROUND
        → KeepsBudget course used vcpu task (seen / ROUND) (bound / ROUND + min 1 (bound % ROUND))
        → StaysReady course event vcpu
        → IsBurstBound course rounds used event vcpu work seen bound
    is_bound bound is within keeps ready = record {
      cost = task.cost;
      period = task.period;
      first = record { task = task; is = there; cost_is = refl; period_is = refl };
      bound_is = is;
      in_run = within;
      keeps = λ r low high. (let meets = round_within seen bound r low high in keeps r meets.0 meets.1);
      runnable = ready;
    }

    -- there is none if that end lies beyond the run
    pub too_late : (bound other : ℕ) → bound ≡ end_of_periods seen work task.cost task.period
        → rounds * ROUND < bound → IsBurstBound course rounds used event vcpu work seen other → ⊥
    too_late bound other is beyond at = omega (arith, one_bound other at, at.in_run)

    -- or a round has another budget
    pub budget_lost : (bound other : ℕ) → bound ≡ end_of_periods seen work task.cost task.period
        → LosesBudget course used vcpu task (seen / ROUND) (bound / ROUND + min 1 (bound % ROUND))
        → IsBurstBound course rounds used event vcpu work seen other → ⊥
    budget_lost bound other is lost at =
        let same = same_budget (task_in course used (seen / ROUND) vcpu) task at.cost at.period there at.first in
        let end : other ≡ bound = one_bound other at ∙ sym is in
        let meets = round_meets seen bound lost.round lost.low lost.high in
        let has = at.keeps lost.round meets.0 (omega (arith, end, meets.1)) in
        lost.lost (subst (λ (c : ℕ). HasBudget course used lost.round vcpu c task.period) same.0
        (subst (λ (p : ℕ). HasBudget course used lost.round vcpu at.cost p) same.1 has))

-- one round more gives the vCPU the budget
pub budgets_more : (course : CourseView) (used : List ℕ) (vcpu : ℕ) (task : Periodic) (first r : ℕ)
    → KeepsBudget course used vcpu task first r → r < length used
    → IsBudget (task_by course (Some (get_or used r 0)) vcpu) task.cost task.period
    → KeepsBudget course used vcpu task first (r + 1)
budgets_more course used vcpu task first r keeps lt is = λ q low high. (elim (cases_lt q r) [
  | inl before ↦ keeps q low before
  | inr last ↦
      let same : q ≡ r = omega arith in
      rw same (budget_read course used vcpu r task.cost task.period lt is)
])
  where
    budget_read : (course : CourseView) (used : List ℕ) (vcpu r cost period : ℕ) → r < length used
        → IsBudget (task_by course (Some (get_or used r 0)) vcpu) cost period
        → HasBudget course used r vcpu cost period
    budget_read course used vcpu r cost period lt is = rw (slice_get-get_or used r 0 lt) is

-- in rounds of one plan a vCPU has one budget
alike_budget : (course : CourseView) (v cost period a b : ℕ) → plan_number_after course a ≡ plan_number_after course b
    → IsBudget (task_by course (Some b) v) cost period → IsBudget (task_by course (Some a) v) cost period
alike_budget course v cost period a b same is =
    subst (λ (k : ℕ). IsBudget (flat (slice_get (slice_index_or course.plans k no_plan).tasks v)) cost period) (sym same) is

-- the rounds of one plan give the budget where one of them does
pub budgets_since : (course : CourseView) (used since : List ℕ) (vcpu : ℕ) (task : Periodic) (next end : ℕ)
    → AreSince course used since → 1 ≤ next → next ≤ end → end ≤ length used
    → KeepsBudget course used vcpu task next end
    → IsBudget (task_by course (Some (get_or used (next - 1) 0)) vcpu) task.cost task.period
    → KeepsBudget course used vcpu task (get_or since (next - 1) 0) end
budgets_since course used since vcpu task next end are some le within keeps is = λ r low high. (elim (cases_lt r next) [
  | inl earlier ↦
      let first = are.each (next - 1) (omega arith) in
      let same = first.same r low (omega arith) in
      let budget = alike_budget course vcpu task.cost task.period (get_or used r 0) (get_or used (next - 1) 0) same is in
      rw (slice_get-get_or used r 0 (omega arith)) budget
  | inr later ↦ keeps r later high
])

-- where one round of a plan doesn't give the budget, not all do
pub budgets_lost : (course : CourseView) (used : List ℕ) (vcpu : ℕ) (task : Periodic) (first r end : ℕ)
    → first ≤ r → r < end → end ≤ length used
    → (IsBudget (task_by course (Some (get_or used r 0)) vcpu) task.cost task.period → ⊥)
    → LosesBudget course used vcpu task first end
budgets_lost course used vcpu task first r end low high within not = record {
  round = r;
  low = low;
  high = high;
  lost = λ has. not (rw (slice_get-get_or used r 0 (omega arith)) at has);
}

-- a vCPU that is runnable from a count on stays so from there
pub ready_since : (course : CourseView) (event v first : ℕ) → IsReadyFrom course v first → first ≤ event + 1
    → StaysReady course event v
ready_since course event v first is le = λ n low high. is.ready n (omega arith) high

-- a vCPU that is blocked at a count isn't runnable from before it on
pub blocked_since : (course : CourseView) (event v first : ℕ) → IsReadyFrom course v first → event + 1 < first
    → StopsReady course event v
blocked_since course event v first is lt = record {
  count = first - 1;
  low = omega arith;
  high = (let within = is.within in omega arith);
  blocked = is.blocked (first - 1) (omega arith);
}
