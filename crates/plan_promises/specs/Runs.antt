-- What a run keeps of the reservations in the hosts of its rounds, across changes of plans. `hosts` has the
-- host after each count of first events; all of them have one tick, that of the first.
-- Source: the two promises of a reservation in M. Vanga, A. Gujarati, B. B. Brandenburg, EuroSys 2018, here
-- across rounds whose hosts may differ.
use Rattle.std.specs.Prelude.{◌≡◌, ℕ, suc, ◌+◌, ◌-◌, ◌*◌, ◌/◌, ◌<◌, ◌≤◌, max, List, Some, slice_get}
use Rattle.tab_core.specs.declared.TheConstants.{ROUND, WHOLE_PPM}
use Rattle.tab_core.specs.declared.host.Host.{Host}
use Rattle.tab_core.specs.declared.periodic.Periodic.{Periodic}
use Rattle.tab_core.specs.declared.reservation.Reservation.{Reservation}
use Rattle.reservation.specs.Cost.{cost}
use Rattle.script_doc.specs.declared.event.Event.{Event}
use Rattle.table_form.specs.Running.Courses.{CourseView}
use Rattle.table_form.specs.Promises.Gaps.{IsGap}
use Rattle.table_form.specs.Promises.Offered.{offers, task_in}
use Rattle.table_form.specs.Running.State.{State}
use Rattle.plan_promises.specs.Histories.{AreHostsOf}
use Rattle.plan_promises.specs.Reservations.{IsReserved}

-- in the host of the round, which was entered, the vCPU has this reservation
pub record IsReservedIn (hosts : ℕ → Host) (decided : List ℕ) (r v : ℕ) (reservation : Reservation) : Type 0 where
  pub count : ℕ
  pub entered : slice_get decided r ≡ Some count
  pub reserved : IsReserved (hosts count) v reservation

-- the vCPU has a task in the plan of the round, whose cost is its share of the period, rounded up to a tick;
-- and in each of that task's periods there it is offered at least its share
pub record GetsItsShareIn (course : CourseView) (decided : List ℕ) (r v : ℕ) (reservation : Reservation)
    : Type 0 where
  pub task : Periodic
  pub at : task_in course decided r v ≡ Some task
  pub cost_is : task.cost ≡ cost reservation.share_ppm task.period
  pub share : (k : ℕ) → k < ROUND / task.period → reservation.share_ppm * task.period
      ≤ WHOLE_PPM * offers course decided v (r * ROUND + k * task.period) task.period

-- each vCPU that is reserved in the host of a round gets its share there
abbrev pub SharesKept : (ℕ → Host) → CourseView → State → Type 0
SharesKept hosts course s = (r v : ℕ) (reservation : Reservation)
    → IsReservedIn hosts s.decided r v reservation → GetsItsShareIn course s.decided r v reservation

-- only who is reserved in the host of a round has a task there
abbrev pub AreTasksSold : (ℕ → Host) → CourseView → State → Type 0
AreTasksSold hosts course s = (r v : ℕ) (task : Periodic) → task_in course s.decided r v ≡ Some task
    → (reservation : Reservation) × IsReservedIn hosts s.decided r v reservation

-- the wait from the first to the last of these ticks is within the greater of the vCPU's latencies in the hosts
-- of their rounds, in ticks of so many nanoseconds
pub record IsWithinLatency (hosts : ℕ → Host) (tick_ns : ℕ) (decided : List ℕ) (v first last : ℕ) : Type 0 where
  pub before : Reservation
  pub after : Reservation
  pub before_is : IsReservedIn hosts decided (first / ROUND) v before
  pub after_is : IsReservedIn hosts decided (last / ROUND) v after
  pub short : tick_ns * (suc last - first) ≤ max before.latency_ns after.latency_ns

-- each wait of a vCPU, through which it has a task and is offered nothing, is within the greater of its latencies at
-- the two ends
abbrev pub WaitsWithinLatency : (ℕ → Host) → ℕ → CourseView → State → Type 0
WaitsWithinLatency hosts tick_ns course s = (v first last : ℕ) → IsGap course s.decided v first last
    → IsWithinLatency hosts tick_ns s.decided v first last

-- by the hosts that the events make of this one, shares and latencies are kept
pub record RunKeepsReservations (host : Host) (events : List Event) (course : CourseView) (s : State) : Type 0 where
  pub hosts : ℕ → Host
  pub known : AreHostsOf host events hosts
  pub shares : SharesKept hosts course s
  pub waits : WaitsWithinLatency hosts host.tick_ns course s
