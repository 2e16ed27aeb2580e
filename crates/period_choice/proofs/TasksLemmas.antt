-- The budgets of a host's first vCPUs, one by one.
use Rattle.std.proofs.Common.{◌≡◌, ℕ, ◌<◌, List, [], ◌∷◌, ◌++◌, length, Option, Some, None, IfSome, is_some, get_or, inl, inr, refl, subst, arith}
use Rattle.std.proofs.lemmas.Option.{slice_get-get_or, slice_get_within}
use Rattle.std.specs.Prelude.{slice_get}
use Rattle.tab_core.specs.declared.host.Host.{Host}
use Rattle.tab_core.specs.declared.periodic.Periodic.{Periodic}
use Rattle.tab_core.specs.declared.reservation.Reservation.{Reservation}
use Rattle.tab_core.specs.declared.vcpu.Vcpu.{Vcpu}
use Rattle.tab_core.proofs.Lists.{push_split}
use Rattle.period_choice.specs.Choice.{HasPeriod}
use Rattle.period_choice.specs.Inside.SoFar.{AreTasksSoFar}
use Rattle.period_choice.specs.Tasks.{AreTasksOf, IsFirstWithoutPeriod, IsTaskOf, LacksPeriod}

-- where the loop over the vCPUs begins
pub no_tasks : (vcpus : List Vcpu) (tick : ℕ) → AreTasksSoFar vcpus tick []
no_tasks vcpus tick number vcpu task at_vcpu at_task = absurd cc

-- the next vCPU has its task
pub task_more : (vcpus : List Vcpu) (tick : ℕ) (tasks : List (Option Periodic)) (vcpu : Vcpu)
    (task : Option Periodic) → AreTasksSoFar vcpus tick tasks
    → slice_get vcpus (length tasks) ≡ Some vcpu → IsTaskOf vcpu.reservation tick task
    → AreTasksSoFar vcpus tick (tasks ++ task ∷ [])
task_more vcpus tick tasks vcpu task h at is number other found at_other at_found =
    elim (push_split tasks number task found at_found) [
      | inl old ↦ h number other found at_other old
      | inr (last, same) ↦ (let here : vcpu ≡ other = cc in
          subst (λ (v : Vcpu). IsTaskOf v.reservation tick found) here
          (subst (λ t. IsTaskOf vcpu.reservation tick t) same is))
    ]

-- who has a task has an admissible period
has_period : (reservation : Option Reservation) (tick : ℕ) (task : Option Periodic)
    → IsTaskOf reservation tick task → IfSome reservation (λ r. HasPeriod r tick)
has_period None tick task is = tt
has_period (Some r) tick None is = absurd is
has_period (Some r) tick (Some task) is = (task.period, is.admissible)

-- the first vCPU that can't be given a task
pub first_without : (host : Host) (tasks : List (Option Periodic)) (vcpu : Vcpu)
    → AreTasksSoFar host.vcpus host.tick_ns tasks
    → slice_get host.vcpus (length tasks) ≡ Some vcpu → LacksPeriod vcpu.reservation host.tick_ns
    → IsFirstWithoutPeriod host (length tasks)
first_without host tasks vcpu h at lacks = record {
  vcpu = vcpu;
  at = at;
  lacks = lacks;
  lowest = λ lower other less at_other.
      (let at_task = slice_get-get_or tasks lower None less in
      has_period other.reservation host.tick_ns _ (h lower other _ at_other at_task));
}

-- a vCPU has a task exactly where it has a reservation
reserved_where : (reservation : Option Reservation) (tick : ℕ) (task : Option Periodic)
    → IsTaskOf reservation tick task → is_some task ≡ is_some reservation
reserved_where None tick None is = refl
reserved_where None tick (Some task) is = absurd (cc)
reserved_where (Some r) tick None is = absurd is
reserved_where (Some r) tick (Some task) is = refl

-- each vCPU of a host has a task exactly where it has a reservation, which tables and texts of its
-- plan rely on
pub tasks_where_reserved : (host : Host) (tasks : List (Option Periodic)) → AreTasksOf host tasks
    → (v : ℕ) (vcpu : Vcpu) (task : Option Periodic) → slice_get host.vcpus v ≡ Some vcpu
    → slice_get tasks v ≡ Some task → is_some task ≡ is_some vcpu.reservation
tasks_where_reserved host tasks are v vcpu task at_vcpu at_task =
    reserved_where vcpu.reservation host.tick_ns task (are.each v vcpu task at_vcpu at_task)

-- where each vCPU has its task none is without a period
pub none_without_period : (host : Host) (tasks : List (Option Periodic)) (vcpu : ℕ)
    → AreTasksOf host tasks → IsFirstWithoutPeriod host vcpu → ⊥
none_without_period host tasks vcpu are first =
    let lt : vcpu < length tasks =
    (let within = slice_get_within host.vcpus vcpu first.vcpu first.at in
    let size = are.as_many in omega arith) in
    lacks_none first.vcpu.reservation host.tick_ns (get_or tasks vcpu None)
    (are.each vcpu first.vcpu (get_or tasks vcpu None) first.at
    (slice_get-get_or tasks vcpu None lt)) first.lacks
  where
    lacks_none : (reservation : Option Reservation) (tick : ℕ) (task : Option Periodic)
        → IsTaskOf reservation tick task → LacksPeriod reservation tick → ⊥
    lacks_none None tick task is lacks = lacks
    lacks_none (Some r) tick None is lacks = is
    lacks_none (Some r) tick (Some task) chosen lacks = lacks (task.period, chosen.admissible)
