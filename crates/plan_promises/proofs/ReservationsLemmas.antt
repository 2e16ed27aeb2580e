-- A plan of the host's tasks keeps the host's reservations.
use Rattle.std.proofs.Common.{◌≡◌, ℕ, suc, ◌+◌, ◌-◌, ◌*◌, ◌≤◌, List, Option, Some, None, refl, ap, subst, ◌∙◌, arith}
use Rattle.std.specs.Prelude.{slice_get}
use Rattle.std.proofs.lemmas.Option.{slice_get_within}
use Rattle.tab_core.specs.Budgets.{slack_of}
use Rattle.tab_core.specs.declared.TheConstants.{WHOLE_PPM}
use Rattle.tab_core.specs.declared.host.Host.{Host}
use Rattle.tab_core.specs.declared.periodic.Periodic.{Periodic}
use Rattle.tab_core.specs.declared.reservation.Reservation.{Reservation}
use Rattle.tab_core.proofs.Lists.{element_at}
use Rattle.table_form.specs.Tables.Plans.{IsPlan, PlanView}
use Rattle.table_form.specs.Tables.Serves.{Apart, Serves}
use Rattle.period_choice.specs.Choice.{IsChosen}
use Rattle.period_choice.specs.Tasks.{AreTasksOf, IsTaskOf}
use Rattle.period_choice.proofs.Waits.{within_latency}
use Rattle.plan_make.specs.Planned.{IsPlanned}
use Rattle.plan_promises.specs.Reservations.{IsReserved, KeepsReservations}
use Rattle.plan_promises.proofs.OffersLemmas.{period_offers, short_waits}

-- the vCPU's task is the chosen one of its reservation, with a tick
pub record HasChosen (tasks : List (Option Periodic)) (tick v : ℕ) (reservation : Reservation) : Type 0 where
  pub task : Periodic
  pub at : slice_get tasks v ≡ Some (Some task)
  pub chosen : IsChosen reservation tick task

-- the chosen budget of a reservation that is there
chosen_in : (o : Option Periodic) (tick : ℕ) (reservation : Reservation) → IsTaskOf (Some reservation) tick o
    → (task : Periodic) × (o ≡ Some task) × IsChosen reservation tick task
chosen_in None tick reservation is = absurd is
chosen_in (Some task) tick reservation is = (task, refl, is)

-- each vCPU with a reservation has its chosen budget for a task
pub has_chosen : (host : Host) (tasks : List (Option Periodic)) (v : ℕ) (reservation : Reservation)
    → AreTasksOf host tasks → IsReserved host v reservation
    → HasChosen tasks host.tick_ns v reservation
has_chosen host tasks v reservation are is =
    let few = slice_get_within host.vcpus v is.vcpu is.at in
    let same = are.as_many in
    let found = element_at tasks v (omega arith) in
    let of = subst (λ (o : Option Reservation). IsTaskOf o host.tick_ns found.0) is.reserved
    (are.each v is.vcpu found.0 is.at found.1) in
    let chosen = chosen_in found.0 host.tick_ns reservation of in
    record { task = chosen.0; at = found.1 ∙ ap Some chosen.1; chosen = chosen.2 }

-- the chosen cost is at least the share of a period
pub enough_cost : (reservation : Reservation) (tick : ℕ) (task : Periodic) → IsChosen reservation tick task
    → reservation.share_ppm * task.period ≤ WHOLE_PPM * task.cost
enough_cost reservation tick task is = (let cost = is.cost_is in omega arith)

-- a wait within two slacks is within the latency
short_wait : (reservation : Reservation) (tick : ℕ) (task : Periodic) (ticks : ℕ)
    → IsChosen reservation tick task → ticks ≤ slack_of task + slack_of task
    → tick * ticks ≤ reservation.latency_ns
short_wait reservation tick task ticks is most =
    (let one = within_latency reservation reservation tick task task ticks is is most in omega arith)

-- rows that serve the host's tasks keep its reservations
pub kept_by_rows : (host : Host) (plan : PlanView) → AreTasksOf host plan.tasks
    → Serves plan.tasks plan.rows → Apart plan.rows → KeepsReservations host plan
kept_by_rows host plan are serves apart = record {
  shares = λ v reservation is.
      (let has = has_chosen host plan.tasks v reservation are is in
      record {
        task = has.task;
        at = has.at;
        share = λ k.
            (let enough = enough_cost reservation host.tick_ns has.task has.chosen in
            let offered = period_offers plan v k has.task serves apart has.at in
            omega arith);
      });
  latencies = λ v reservation is first last wait.
      (let has = has_chosen host plan.tasks v reservation are is in
      short_wait reservation host.tick_ns has.task (suc last - first) has.chosen
      (short_waits plan v first last has.task
      (λ k. period_offers plan v k has.task serves apart has.at) wait));
}

-- the host's plan keeps its reservations
pub kept_by_plan : (host : Host) (plan : PlanView) → IsPlanned host plan → IsPlan plan
    → KeepsReservations host plan
kept_by_plan host plan planned keeps =
    kept_by_rows host plan planned.layout.is_start.tasks_are keeps.serves keeps.apart
