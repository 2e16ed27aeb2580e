-- What a run promises to whoever was sold a vCPU, in the fewest words.
-- Source: the rules of this project.
use Rattle.std.specs.Prelude.{◌≡◌, ℕ, suc, ◌*◌, ◌/◌, ◌<◌, ◌≤◌, List, Some, length, slice_get}
use Rattle.tab_core.specs.Timelines.{AreContiguous}
use Rattle.tab_core.specs.declared.TheConstants.{ROUND}
use Rattle.tab_core.specs.declared.host.Host.{Host}
use Rattle.tab_core.specs.declared.stint.Stint.{Stint}
use Rattle.table_form.specs.Promises.Busy.{IsBusy}
use Rattle.table_form.specs.Promises.Capped.{KeepsCaps}
use Rattle.table_form.specs.Running.Courses.{CourseView}
use Rattle.table_form.specs.Promises.Fresh.{IsFresh}
use Rattle.table_form.specs.Running.State.{State, CoreState, IsCore}
use Rattle.table_form.specs.Promises.Together.{Covers, RunsOnOneCore}
use Rattle.script_doc.specs.declared.event.Event.{Event}
use Rattle.plan_promises.specs.Histories.{IsHistory}
use Rattle.plan_promises.specs.Runs.{AreTasksSold, SharesKept, WaitsWithinLatency}

-- Every core runs to the end of so many rounds, in stints of a tick or more that follow one another in time. Each round
-- was entered with a count of first events, which never falls and is fresh at the round's begin. At each tick all cores
-- use the plan of the count of the tick's round. No vCPU runs on two cores at one tick. Each vCPU that is reserved in a
-- round's host is offered its share there, nobody else has a task, and each wait between offers is within the greater
-- of the vCPU's latencies at its two ends. Each stint goes by a seen count of events, which never falls along a core's
-- stints and is fresh as the stint begins. After these events whoever runs is runnable, and a slot's owner who is
-- runnable runs in it. No core idles while a runnable vCPU is eligible on it. A capped vCPU with a task runs at no more
-- ticks of a period, counted from the round's begin, than the task's cost
pub record RunPromises (rounds : ℕ) (hosts : ℕ → Host) (tick_ns : ℕ) (course : CourseView) (s : State) : Type 0 where
  pub whole : (c : ℕ) (core : CoreState) → IsCore s c core → core.clock ≡ rounds * ROUND
  pub in_time : (c : ℕ) (core : CoreState) → IsCore s c core → AreContiguous 0 core.stints core.clock
  pub some_ticks : (c k : ℕ) (core : CoreState) (st : Stint) → IsCore s c core → slice_get core.stints k ≡ Some st
      → st.from < st.end
  pub entered : length s.decided ≡ rounds
  pub counts : (r d : ℕ) → slice_get s.decided r ≡ Some d → d ≤ length course.ticks
  pub rises : (r a b : ℕ) → slice_get s.decided r ≡ Some a → slice_get s.decided (suc r) ≡ Some b → a ≤ b
  pub fresh : (r d : ℕ) → slice_get s.decided r ≡ Some d → IsFresh course d (r * ROUND)
  pub one_plan : (c x : ℕ) (core : CoreState) (st : Stint) → IsCore s c core → Covers core x st
      → slice_get s.decided (x / ROUND) ≡ Some st.used
  pub one_core : RunsOnOneCore s
  pub shares : SharesKept hosts course s
  pub sold : AreTasksSold hosts course s
  pub waits : WaitsWithinLatency hosts tick_ns course s
  pub seen : (c k : ℕ) (core : CoreState) (st : Stint) → IsCore s c core → slice_get core.stints k ≡ Some st
      → (st.seen ≤ length course.ticks) × IsFresh course st.seen st.from
  pub seen_rises : (c j k : ℕ) (core : CoreState) (st su : Stint) → IsCore s c core → j ≤ k
      → slice_get core.stints j ≡ Some st → slice_get core.stints k ≡ Some su → st.seen ≤ su.seen
  pub work_conserving : IsBusy course s
  pub caps : KeepsCaps course s

-- The events make some hosts of this one, and by these the run on the course keeps its promises
pub record IsPromisedRun (rounds : ℕ) (host : Host) (events : List Event) (course : CourseView) (s : State)
    : Type 0 where
  pub hosts : ℕ → Host
  pub history : IsHistory host events hosts course
  pub promises : RunPromises rounds hosts host.tick_ns course s
