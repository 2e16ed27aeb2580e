-- What the lines of stints tell and show.
use Rattle.std.specs.Prelude.{ℕ, ◌≤◌, Bool, List, length, Option, Some, None, if◌then◌else◌}
use Rattle.tab_core.specs.declared.TheConstants.{MAX_VCPUS}
use Rattle.tab_core.specs.declared.host.Host.{Host}
use Rattle.tab_core.specs.declared.stint.Stint.{Stint}
use Rattle.table_form.specs.Running.Choice.{is_shared}
use Rattle.table_form.specs.Running.Courses.{CourseView, IsCourse}
use Rattle.vcpu_names.specs.Names.{name_at, names_of}
use Rattle.plan_text.specs.Names.{AreHostNames}
use Rattle.script_doc.specs.declared.event.Event.{Event}
use Rattle.plan_book.specs.Courses.{IsCourseOf}
use Rattle.view_doc.specs.Lines.{Holder, nobody, in_slot, in_unused, Told, stint}

-- whoever ran, by name: nobody, a vCPU in its own slot, or one in unused time
abbrev pub ran_holder : List (List ℕ) → Bool → Option ℕ → Holder
ran_holder names shared None = nobody
ran_holder names shared (Some vcpu) =
    if shared then in_unused (name_at names vcpu) else in_slot (name_at names vcpu)

-- a stint of core c: its ticks, its two counts of events, and who ran
abbrev pub stint_told : List (List ℕ) → CourseView → ℕ → Stint → Told
stint_told names course c s =
    stint c s.from s.end s.used s.seen (ran_holder names (is_shared course c s) s.ran)

-- a host and the course that a script makes of it, with what their types keep
pub record IsHostWithCourse (host : Host) (course : CourseView) : Type 0 where
  pub names : AreHostNames (names_of host.vcpus)
  pub few : length host.vcpus ≤ MAX_VCPUS
  pub events : List Event
  pub course_is : IsCourseOf host events course
  pub keeps : IsCourse course
