-- A kept run on a course of hosts keeps their reservations.
use Rattle.std.proofs.Common.{◌≡◌, ℕ, suc, ◌+◌, ◌-◌, ◌*◌, ◌/◌, ◌<◌, ◌≤◌, List, Option, Some, None, length, slice_get, refl, ap, subst, ◌∙◌, arith}
use Rattle.std.proofs.lemmas.List.{length-map}
use Rattle.std.proofs.lemmas.Option.{slice_get_within}
use Rattle.tab_core.specs.declared.TheConstants.{ROUND}
use Rattle.tab_core.specs.declared.host.Host.{Host}
use Rattle.tab_core.specs.declared.periodic.Periodic.{Periodic}
use Rattle.tab_core.specs.declared.reservation.Reservation.{Reservation}
use Rattle.tab_core.proofs.Lists.{element_at}
use Rattle.period_choice.specs.Choice.{IsChosen}
use Rattle.period_choice.specs.Tasks.{AreTasksOf, IsTaskOf}
use Rattle.period_choice.proofs.Waits.{within_latency}
use Rattle.table_form.specs.Running.Courses.{CourseView, plan_after}
use Rattle.table_form.specs.Promises.Gaps.{task_at}
use Rattle.table_form.specs.Promises.Offered.{offers, task_in}
use Rattle.table_form.specs.Promises.Run.{KeepsPromises}
use Rattle.table_form.specs.Running.State.{State}
use Rattle.table_form.specs.Tables.Plans.{PlanView}
use Rattle.table_form.specs.Tables.Serves.{flat}
use Rattle.script_doc.specs.declared.event.Event.{Event}
use Rattle.plan_book.specs.Courses.{IsCourseOf, ShowsAfter}
use Rattle.plan_book.proofs.PlannedAfter.{known_planned}
use Rattle.plan_book.proofs.SameShape.{one_tick}
use Rattle.run_promises.proofs.GapLemmas.{some_task}
use Rattle.run_promises.proofs.ServedLemmas.{task_found}
use Rattle.plan_promises.specs.Reservations.{IsReserved}
use Rattle.plan_promises.specs.Runs.{AreTasksSold, GetsItsShareIn, IsReservedIn, RunKeepsReservations, SharesKept, WaitsWithinLatency}
use Rattle.plan_promises.proofs.HistoriesLemmas.{has_host, hosts_of, known_hosts}
use Rattle.plan_promises.proofs.ReservationsLemmas.{enough_cost, has_chosen}

-- a vCPU with a task has a reservation of which it is the chosen one
record Reserved (host : Host) (v : ℕ) (task : Periodic) : Type 0 where
  reservation : Reservation
  is : IsReserved host v reservation
  chosen : IsChosen reservation host.tick_ns task

-- the reservation of which a task is the chosen budget
chosen_of : (o : Option Reservation) (tick : ℕ) (task : Periodic) → IsTaskOf o tick (Some task)
    → (r : Reservation) × (o ≡ Some r) × IsChosen r tick task
chosen_of None tick task is = absurd cc
chosen_of (Some r) tick task is = (r, refl, is)

-- each vCPU with a task has one
reserved_of : (host : Host) (tasks : List (Option Periodic)) (v : ℕ) (task : Periodic)
    → AreTasksOf host tasks → slice_get tasks v ≡ Some (Some task) → Reserved host v task
reserved_of host tasks v task are at =
    let few = slice_get_within tasks v (Some task) at in
    let same = are.as_many in
    let found = element_at host.vcpus v (omega arith) in
    let chosen = chosen_of found.0.reservation host.tick_ns task
    (are.each v found.0 (Some task) found.1 at) in
    record {
      reservation = chosen.0;
      is = record { vcpu = found.0; at = found.1; reserved = chosen.1 };
      chosen = chosen.2;
    }

-- the tasks of the plan after a count are the chosen ones of the host then
tasks_after : (host : Host) (events : List Event) (course : CourseView) (n : ℕ)
    (after : ShowsAfter host events course n) → AreTasksOf after.known.host after.known.plan.tasks
tasks_after host events course n after =
    (known_planned host events n after.known after.is).layout.is_start.tasks_are

-- the reservation of a vCPU that the plan of an entered round holds
record InRound (hosts : ℕ → Host) (tick_ns : ℕ) (decided : List ℕ) (r v : ℕ) (task : Periodic) : Type 0 where
  reservation : Reservation
  reserved : IsReservedIn hosts decided r v reservation
  chosen : IsChosen reservation tick_ns task

module _ (host : Host) (events : List Event) (course : CourseView) (of : IsCourseOf host events course)
    (decided : List ℕ) (few : (q d : ℕ) → slice_get decided q ≡ Some d → d ≤ length events) where
  -- it has one, since the plan's tasks are the chosen ones of its host, whose tick is that of the first
  in_round : (r v : ℕ) (task : Periodic) → task_in course decided r v ≡ Some task
      → InRound (hosts_of host events course of) host.tick_ns decided r v task
  in_round r v task is =
      let found = task_found course (slice_get decided r) v task is in
      let has = has_host host events course of found.0 (few r found.0 found.1) in
      let after = has.after in
      let at = subst (λ (p : PlanView). slice_get p.tasks v ≡ Some (Some task)) after.shows.plan found.2 in
      let reserved = reserved_of after.known.host after.known.plan.tasks v task
      (tasks_after host events course found.0 after) at in
      record {
        reservation = reserved.reservation;
        reserved = record {
          count = found.0;
          entered = found.1;
          reserved = rw has.host_is reserved.is;
        };
        chosen = subst (λ tick. IsChosen reserved.reservation tick task)
            (one_tick host events found.0 after.known after.is) reserved.chosen;
      }

  -- a vCPU that is reserved in the host of a round has the chosen task there, which is served
  share_in : (r v : ℕ) (reservation : Reservation)
      → IsReservedIn (hosts_of host events course of) decided r v reservation
      → ((q w k : ℕ) (task : Periodic) → task_in course decided q w ≡ Some task → k < ROUND / task.period
      → task.cost ≤ offers course decided w (q * ROUND + k * task.period) task.period)
      → GetsItsShareIn course decided r v reservation
  share_in r v reservation is served =
      let has = has_host host events course of is.count (few r is.count is.entered) in
      let after = has.after in
      let chosen = has_chosen after.known.host after.known.plan.tasks v reservation
      (tasks_after host events course is.count after)
      (subst (λ (h : Host). IsReserved h v reservation) has.host_is is.reserved) in
      let in_plan : flat (slice_get (plan_after course is.count).tasks v) ≡ Some chosen.task =
      rw after.shows.plan (ap flat chosen.at) in
      let at : task_in course decided r v ≡ Some chosen.task = rw is.entered in_plan in
      record {
        task = chosen.task;
        at = at;
        cost_is = chosen.chosen.cost_is;
        share = λ k lt.
            (let enough = enough_cost reservation after.known.host.tick_ns chosen.task chosen.chosen in
            let offered = served r v k chosen.task at lt in
            omega arith);
      }

-- a round's count is of events that there are
few_events : (host : Host) (events : List Event) (course : CourseView) (rounds : ℕ) (s : State)
    → IsCourseOf host events course → KeepsPromises course rounds s
    → (q d : ℕ) → slice_get s.decided q ≡ Some d → d ≤ length events
few_events host events course rounds s of promises q d at =
    let posted = promises.invariant.decided_posted q d at in
    let most = promises.invariant.posted_most in
    let count = ap length of.ticks ∙ length-map events (λ (event : Event). event.tick) in
    omega arith

-- shares are kept, by the hosts that the course shows
pub run_shares : (host : Host) (events : List Event) (course : CourseView) (rounds : ℕ) (s : State)
    → (of : IsCourseOf host events course) → KeepsPromises course rounds s
    → SharesKept (hosts_of host events course of) course s
run_shares host events course rounds s of promises = λ r v reservation is.
    share_in host events course of s.decided (few_events host events course rounds s of promises) r v reservation is
    (λ q w k task has lt. promises.served q w k task has lt)

-- whoever has a task is reserved, by these hosts
pub run_sold : (host : Host) (events : List Event) (course : CourseView) (rounds : ℕ) (s : State)
    → (of : IsCourseOf host events course) → KeepsPromises course rounds s
    → AreTasksSold (hosts_of host events course of) course s
run_sold host events course rounds s of promises = λ r v task is.
    let few = few_events host events course rounds s of promises in
    let found = in_round host events course of s.decided few r v task is in (found.reservation, found.reserved)

-- latencies are kept, by these hosts
pub run_waits : (host : Host) (events : List Event) (course : CourseView) (rounds : ℕ) (s : State)
    → (of : IsCourseOf host events course) → KeepsPromises course rounds s
    → WaitsWithinLatency (hosts_of host events course of) host.tick_ns course s
run_waits host events course rounds s of promises = λ v a l gap.
    let few = few_events host events course rounds s of promises in
    let order = gap.order in
    let at_a = some_task (task_at course s.decided v a) (gap.has_task a (omega arith) order) in
    let at_l = some_task (task_at course s.decided v l) (gap.has_task l order (omega arith)) in
    let first = in_round host events course of s.decided few (a / ROUND) v at_a.0 at_a.1 in
    let last = in_round host events course of s.decided few (l / ROUND) v at_l.0 at_l.1 in
    record {
      before = first.reservation;
      after = last.reservation;
      before_is = first.reserved;
      after_is = last.reserved;
      short = within_latency first.reservation last.reservation host.tick_ns at_a.0 at_l.0 (suc l - a)
          first.chosen last.chosen (promises.short_gaps v a l at_a.0 at_l.0 gap at_a.1 at_l.1);
    }

-- a run keeps the reservations of its hosts
pub run_keeps : (host : Host) (events : List Event) (course : CourseView) (rounds : ℕ) (s : State)
    → IsCourseOf host events course → KeepsPromises course rounds s → RunKeepsReservations host events course s
run_keeps host events course rounds s of promises = record {
  hosts = hosts_of host events course of;
  known = known_hosts host events course of;
  shares = run_shares host events course rounds s of promises;
  waits = run_waits host events course rounds s of promises;
}
