-- What allotments and tasks give a whole-host plan.
use Rattle.std.proofs.Common.{◌≡◌, ℕ, ◌+◌, ◌-◌, ◌*◌, ◌/◌, ◌<◌, ◌≤◌, List, [], Option, Some, length, get_or, slice_get, ap, refl, sym, subst, ◌∙◌, arith, inl, inr}
use Rattle.std.proofs.lemmas.Bool.{cases_lt}
use Rattle.std.proofs.lemmas.Option.{slice_get_within}
use Rattle.tab_core.specs.Vcpus.{capped_set}
use Rattle.tab_core.specs.declared.TheConstants.{MAX_VCPUS, ROUND}
use Rattle.tab_core.specs.declared.host.Host.{Host}
use Rattle.tab_core.specs.declared.periodic.Periodic.{Periodic}
use Rattle.tab_core.proofs.Periods.{period_facts}
use Rattle.table_form.specs.Tables.Plans.{IsPlanFor, PlanView}
use Rattle.table_form.specs.Tables.Serves.{supply}
use Rattle.period_choice.specs.Tasks.{AreTasksOf, IsFirstWithoutPeriod}
use Rattle.period_choice.specs.declared.fault.TaskFault.{TaskFault}
use Rattle.period_choice.specs.declared.fault.TaskFault.TheVariants.{NoMemory, NoPeriod}
use Rattle.period_choice.proofs.TasksLemmas.{none_without_period, tasks_where_reserved}
use Rattle.period_choice.proofs.Unique.{tasks_unique}
use Rattle.table_form.proofs.TaskLemmas.{tasks_admit}
use Rattle.flow_net.specs.Allotments.{AllotmentView, IsAllotment, demands}
use Rattle.wrap_table.specs.Faults.{whole_fault_of_tasks}
use Rattle.wrap_table.specs.Inside.Laying.{HasIntervals}
use Rattle.wrap_table.specs.Whole.{IsBeyondRoom, IsWholePlan}
use Rattle.wrap_table.specs.Wrapping.{AreWrapped, IsWrapped}
use Rattle.wrap_table.specs.declared.fault.WholeFault.TheVariants as whole
use Rattle.wrap_table.proofs.Serving.{wrapped_serves}

-- an allotment's marks rise from 0 to the round, and each interval has its ticks
pub intervals_of : (tasks : List (Option Periodic)) (cores : ℕ) (a : AllotmentView)
    → IsAllotment tasks cores a
    → length tasks ≤ MAX_VCPUS → HasIntervals a
intervals_of tasks cores a is few = record {
  marks = omega (arith, is.rows, is.marks.some);
  first = is.marks.first;
  last = (let e : length a.ticks ≡ length a.marks - 1 = is.rows in ap (λ i. get_or a.marks i 0) e)
      ∙ is.marks.last;
  rise = λ i lt. is.marks.rise i (omega (arith, lt, is.rows));
  few = λ i lt. omega (arith, is.widths i lt, few);
}

-- a task has a first period
some_period : (task : Periodic) → 0 < ROUND / task.period
some_period task = elim (cases_lt 0 (ROUND / task.period)) [
  | inl some ↦ some
  | inr none ↦
      (let zero_is : ROUND / task.period ≡ 0 = omega arith in
      let product : task.period * (ROUND / task.period)
      ≡ task.period * 0 = ap (λ n. task.period * n) zero_is in
      absurd (omega (arith, (period_facts task.period task.listed).whole, product)))
]

-- without rows nothing is supplied
no_supply : (v from to : ℕ) → supply v [] from to ≡ 0
unfolding supply
no_supply v from to = refl

-- an allotment of a task is to some core
pub some_core : (tasks : List (Option Periodic)) (cores : ℕ) (a : AllotmentView) → IsAllotment tasks cores a
    → (v : ℕ) (task : Periodic) → slice_get tasks v ≡ Some (Some task) → 0 < cores
some_core tasks cores a is v task at = elim (cases_lt 0 cores) [
  | inl some ↦ some
  | inr none ↦
      (let zero_is : cores ≡ 0 = omega arith in
      let wrapped : AreWrapped a cores [] = record {
        count = sym zero_is;
        lengths = λ c row bad. absurd (omega (arith, slice_get_within [] c row bad));
        cells = λ c i t lt in_round within. absurd (omega arith);
      } in
      let due = wrapped_serves tasks cores a [] is wrapped v task at 0 (some_period task) in
      absurd (omega (arith, task.costs, due, no_supply v (0 * task.period) ((0 + 1) * task.period))))
]

-- a whole-host plan is one for its host
pub fits_host : (host : Host) (plan : PlanView) → IsWholePlan host plan → IsPlanFor host plan
fits_host host plan is = record {
  rows = is.wrapped.rows_are.count;
  vcpus = is.tasks.as_many;
  admitted = tasks_admit host.vcpus plan.tasks is.tasks.as_many
      (tasks_where_reserved host plan.tasks is.tasks);
}

-- where each vCPU has its task, of the two refusals of the choice of periods only running out of memory
-- is left
pub no_memory_for_tasks : (host : Host) (tasks : List (Option Periodic)) (fault : TaskFault)
    → AreTasksOf host tasks → ((vcpu : ℕ) → fault ≡ NoPeriod vcpu → IsFirstWithoutPeriod host vcpu)
    → whole_fault_of_tasks fault ≡ whole.NoMemory
no_memory_for_tasks host tasks (NoPeriod vcpu) are told =
    absurd (none_without_period host tasks vcpu are (told vcpu refl))
no_memory_for_tasks host tasks NoMemory are told = refl

-- a host whose tasks fit isn't beyond its room
pub not_beyond : (host : Host) (tasks : List (Option Periodic)) (demand room : ℕ)
    → AreTasksOf host tasks
    → demands tasks ≤ host.cores * ROUND → IsBeyondRoom host demand room → ⊥
not_beyond host tasks demand room are fit beyond =
    let same = ap demands (tasks_unique host beyond.tasks tasks beyond.tasks_are are) in
    omega (arith, beyond.demand_is, beyond.room_is, beyond.beyond, same, fit)

-- what the three parts of planning make is a whole-host plan
pub whole_plan : (host : Host) (tasks : List (Option Periodic)) (a : AllotmentView) (plan : PlanView)
    → AreTasksOf host tasks → IsAllotment tasks host.cores a → IsWrapped tasks a host.cores plan
    → plan.capped ≡ capped_set host.vcpus → IsWholePlan host plan
whole_plan host tasks a plan are is wrapped capped = record {
  allotment = a;
  tasks = subst (λ (ts : List (Option Periodic)). AreTasksOf host ts) (sym wrapped.tasks_are) are;
  is_allotment = subst (λ (ts : List (Option Periodic)). IsAllotment ts host.cores a) (sym wrapped.tasks_are)
      is;
  wrapped = subst (λ (ts : List (Option Periodic)). IsWrapped ts a host.cores plan) (sym wrapped.tasks_are)
      wrapped;
  capped = capped;
}
