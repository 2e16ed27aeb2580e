-- The course that a script makes of a host.
use Rattle.std.specs.Prelude.{◌≡◌, ℕ, ◌≤◌, List, length, map}
use Rattle.tab_core.specs.declared.host.Host.{Host}
use Rattle.table_form.specs.Running.Courses.{CourseView, plan_after, plan_number_after, runnable_after}
use Rattle.script_doc.specs.declared.event.Event.{Event}
use Rattle.plan_book.specs.After.{IsKnownAfter}
use Rattle.plan_book.specs.States.{BookState}

-- the ticks of events
abbrev pub ticks_of : List Event → List ℕ
ticks_of events = map (λ event. event.tick) events

-- after the first n events the course has the plan, its number and the runnable vCPUs of this state
pub record Shows (course : CourseView) (n : ℕ) (known : BookState) : Type 0 where
  pub plan : plan_after course n ≡ known.plan
  pub number : plan_number_after course n ≡ known.number
  pub runnable : runnable_after course n ≡ known.runnable

-- after n events the course shows what is known then
pub record ShowsAfter (host : Host) (events : List Event) (course : CourseView) (n : ℕ) : Type 0 where
  pub known : BookState
  pub is : IsKnownAfter host events n known
  pub shows : Shows course n known

-- the course has the host's cores, lag and quantum, the events' ticks, and what is known after each
-- count of first events
pub record IsCourseOf (host : Host) (events : List Event) (course : CourseView) : Type 0 where
  pub cores : course.cores ≡ host.cores
  pub lag : course.lag ≡ host.lag
  pub quantum : course.quantum ≡ host.quantum
  pub ticks : course.ticks ≡ ticks_of events
  pub after : (n : ℕ) → n ≤ length events → ShowsAfter host events course n
