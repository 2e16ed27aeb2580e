-- What a plan book says: the course of a script for a host, and what became of each change of
-- reservations.
use Rattle.std.specs.Prelude.{◌≡◌, ℕ, ◌<◌, List, length}
use Rattle.std.specs.List.{All}
use Rattle.tab_core.specs.declared.host.Host.{Host}
use Rattle.table_form.specs.Running.Courses.{CourseView}
use Rattle.script_doc.specs.declared.event.Event.{Event}
use Rattle.plan_book.specs.After.{IsKnownAfter}
use Rattle.plan_book.specs.Courses.{IsCourseOf}
use Rattle.plan_book.specs.States.{BookState}
use Rattle.plan_book.specs.declared.outcome.Outcome.{Outcome}
use Rattle.plan_book.specs.declared.outcome.Outcome.TheVariants.{Planned, NoPeriod, NoRoom}

-- the course, and the outcomes of the script's changes in their order
pub record BookView : Type 0 where
  pub course : CourseView
  pub outcomes : List Outcome

-- a book as its two parts
abbrev pub book_view : CourseView → List Outcome → BookView
book_view course outcomes = record { course = course; outcomes = outcomes }

-- the vCPU that the outcome names, if it names one, is below this count
abbrev pub NamesVcpuBelow : ℕ → Outcome → Type 0
NamesVcpuBelow count Planned = Unit {0}
NamesVcpuBelow count (NoPeriod vcpu) = vcpu < count
NamesVcpuBelow count (NoRoom vcpu) = vcpu < count

-- each vCPU that the outcomes name is below this count
abbrev pub NameVcpusBelow : ℕ → List Outcome → Type 0
NameVcpusBelow count outcomes = All (NamesVcpuBelow count) outcomes

-- the book is that of this script for this host: its course, and the outcomes after all events
pub record IsBookOf (host : Host) (events : List Event) (book : BookView) : Type 0 where
  pub course : IsCourseOf host events book.course
  pub outcomes : (known : BookState) → IsKnownAfter host events (length events) known
      → book.outcomes ≡ known.outcomes
