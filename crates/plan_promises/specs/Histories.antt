-- The hosts of a run: what each event of a script makes of the host and of its runnable vCPUs.
-- Which changes are taken, and by which plans, is no matter here: `IsKnownAfter` of plan_book says it.
-- Source: the rules of this project.
use Rattle.std.specs.Prelude.{◌≡◌, ◌⊎◌, ℕ, suc, ◌≤◌, Bool, true, false, List, Some, length, slice_get, slice_set}
use Rattle.tab_core.specs.Edits.{IsEdited}
use Rattle.tab_core.specs.Vcpus.{capped_set, runnable_at_first}
use Rattle.tab_core.specs.declared.host.Host.{Host}
use Rattle.table_form.specs.Running.Courses.{CourseView, plan_after, runnable_after}
use Rattle.table_form.specs.Tables.Homes.{HaveHomes}
use Rattle.table_form.specs.Tables.Plans.{PlanView}
use Rattle.table_form.specs.Tables.Serves.{OwnersHaveTasks}
use Rattle.script_doc.specs.declared.event.Act.{Act}
use Rattle.script_doc.specs.declared.event.Act.TheVariants.{Wake, Block, Change, Burst}
use Rattle.script_doc.specs.declared.event.Event.{Event}
use Rattle.plan_book.specs.After.{IsKnownAfter}
use Rattle.plan_book.specs.Courses.{ticks_of}
use Rattle.plan_book.specs.States.{BookState}

-- after each count of first events the host is the one that is known then
abbrev pub AreHostsOf : Host → List Event → (ℕ → Host) → Type 0
AreHostsOf host events hosts = (n : ℕ) → n ≤ length events
    → (known : BookState) × IsKnownAfter host events n known × (hosts n ≡ known.host)

-- what an event makes of a host and of its set of runnable vCPUs: a wake sets the vCPU's flag, a block clears it, a
-- burst changes nothing, and a change edits the host, or is refused and leaves it as it is
abbrev pub Follows : Act → Host → List Bool → Host → List Bool → Type 0
Follows (Wake vcpu) host flags next flags' = (next ≡ host) × (flags' ≡ slice_set flags vcpu true)
Follows (Block vcpu) host flags next flags' = (next ≡ host) × (flags' ≡ slice_set flags vcpu false)
Follows (Change edits) host flags next flags' = (IsEdited host edits next ⊎ (next ≡ host)) × (flags' ≡ flags)
Follows (Burst vcpu work) host flags next flags' = (next ≡ host) × (flags' ≡ flags)

-- a plan on such a host: a row for each core, in which nobody without a task has a slot; a home for each vCPU with
-- a task; and the host's capped vCPUs
pub record IsPlanOn (host : Host) (plan : PlanView) : Type 0 where
  pub rows : length plan.rows ≡ host.cores
  pub owned : OwnersHaveTasks plan.tasks plan.rows
  pub housed : HaveHomes plan.tasks plan.homes plan.rows
  pub capped : plan.capped ≡ capped_set host.vcpus

-- The hosts after each count of first events, and the course: it has the host's cores and lag, the events'
-- ticks, and after each count who is runnable, and a plan on the cores and with the caps of the first host
pub record IsHistory (host : Host) (events : List Event) (hosts : ℕ → Host) (course : CourseView) : Type 0 where
  pub cores : course.cores ≡ host.cores
  pub lag : course.lag ≡ host.lag
  pub ticks : course.ticks ≡ ticks_of events
  pub first : hosts 0 ≡ host
  pub runnable : runnable_after course 0 ≡ runnable_at_first host.vcpus
  pub each : (n : ℕ) (event : Event) → slice_get events n ≡ Some event
      → Follows event.act (hosts n) (runnable_after course n) (hosts (suc n)) (runnable_after course (suc n))
  pub plans : (n : ℕ) → n ≤ length events → IsPlanOn host (plan_after course n)
