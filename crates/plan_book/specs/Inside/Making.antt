-- What is known while a book is made, in the lists that it is made of.
use Rattle.std.specs.Prelude.{◌≡◌, ◌⊎◌, ℕ, ◌+◌, ◌-◌, ◌<◌, ◌≤◌, Bool, List, [], ◌∷◌, ◌++◌, Option, None, Some, Result, length, map, slice_get, slice_index_or}
use Rattle.tab_core.specs.Edits.{IsEdited}
use Rattle.tab_core.specs.declared.edit.Edit.{Edit}
use Rattle.tab_core.specs.declared.host.Host.{Host}
use Rattle.table_form.specs.Running.CourseViews.{course_view}
use Rattle.table_form.specs.Running.Courses.{CourseView, no_plan}
use Rattle.table_form.specs.Tables.Plans.{IsPlanFor, PlanView}
use Rattle.table_form.specs.Tables.Views.{plan_view}
use Rattle.table_form.specs.declared.plan.Plan.{Plan}
use Rattle.script_doc.specs.declared.event.Act.{Act}
use Rattle.script_doc.specs.declared.event.Act.TheVariants.{Change}
use Rattle.script_doc.specs.declared.event.Event.{Event}
use Rattle.plan_make.specs.declared.fault.PlanFault.{PlanFault}
use Rattle.plan_make.specs.declared.fault.PlanFault.TheVariants.{NoPeriod, NoRoom, NoMemory}
use Rattle.plan_book.specs.After.{IsKnownAfter}
use Rattle.plan_book.specs.Books.{BookView, book_view}
use Rattle.plan_book.specs.Courses.{ticks_of}
use Rattle.plan_book.specs.Mades.{IsMadeOf}
use Rattle.plan_book.specs.States.{BookState}
use Rattle.plan_book.specs.declared.book_so_far.BookSoFar.{BookSoFar}
use Rattle.plan_book.specs.declared.outcome.Outcome.{Outcome}
use Rattle.plan_book.specs.declared.outcome.Outcome.TheVariants as outcome

-- the plan of this number
abbrev pub plan_of : List Plan → ℕ → PlanView
plan_of plans number = slice_index_or (map plan_view plans) number no_plan

-- what is known, of which the plan is the last one
abbrev pub known_of : BookSoFar → BookState
known_of so_far = record {
  host = so_far.host;
  plan = plan_of so_far.plans.items (length so_far.plans.items - 1);
  number = length so_far.plans.items - 1;
  runnable = so_far.runnable;
  outcomes = so_far.outcomes.items;
}

-- the plans stay, or there is one more
abbrev pub KeepsPlans : List Plan → List Plan → Type 0
KeepsPlans plans more = (more ≡ plans) ⊎ ((plan : Plan) × (more ≡ plans ++ plan ∷ []))

-- a refusal of a changed host's plan, as the change's outcome; out of memory is none
abbrev pub outcome_of_fault : PlanFault → Option Outcome
outcome_of_fault (NoPeriod vcpu) = Some (outcome.NoPeriod vcpu)
outcome_of_fault (NoRoom vcpu rest over) = Some (outcome.NoRoom vcpu)
outcome_of_fault NoMemory = None

-- what was known after k events, with its plan among these and its entries in these lists
pub record IsRecorded (host : Host) (events : List Event) (plans : List Plan) (numbers : List ℕ)
    (runnable : List (List Bool)) (k : ℕ) : Type 0 where
  pub known : BookState
  pub is : IsKnownAfter host events k known
  pub fits : IsPlanFor known.host known.plan
  pub plan : slice_get (map plan_view plans) known.number ≡ Some known.plan
  pub number : slice_get numbers k ≡ Some known.number
  pub set : slice_get runnable k ≡ Some known.runnable

-- the state of the book's making after n events
pub record BookInvariant (host : Host) (events : List Event) (n : ℕ) (so_far : BookSoFar) (numbers : List ℕ)
    (runnable : List (List Bool)) : Type 0 where
  pub known : IsKnownAfter host events n (known_of so_far)
  pub some : 0 < length so_far.plans.items
  pub fits : IsPlanFor so_far.host (known_of so_far).plan
  pub numbered : length numbers ≡ n + 1
  pub runnables : length runnable ≡ n + 1
  pub kept : (k : ℕ) → k ≤ n → IsRecorded host events so_far.plans.items numbers runnable k
  pub used : (k : ℕ) → k < length so_far.plans.items → (i : ℕ) × (i ≤ n) × (slice_get numbers i ≡ Some k)

-- what stands for the next change, if anything, was made of the host that this act makes, if it is that change
abbrev pub IsNextMade : BookState → Act → List (Option (Result Plan Outcome)) → Type 0
IsNextMade known act made = (edits : List Edit) (changed : Host) (m : Result Plan Outcome) → act ≡ Change edits
    → IsEdited known.host edits changed → slice_get made (length known.outcomes) ≡ Some (Some m) → IsMadeOf changed m

-- what is at a place was there before
abbrev pub AreLeft : List (Option (Result Plan Outcome)) → List (Option (Result Plan Outcome)) → Type 0
AreLeft made left = (k : ℕ) (m : Result Plan Outcome) → slice_get left k ≡ Some (Some m) → slice_get made k ≡ Some (Some m)

-- the course that is made of the host's numbers, the events and these lists
abbrev pub course_of : Host → List Event → List Plan → List ℕ → List (List Bool) → CourseView
course_of host events plans numbers runnable =
    course_view host.cores host.lag host.quantum (ticks_of events) plans numbers runnable

-- the book has that course and these outcomes, after all events
pub record IsBookMade (host : Host) (events : List Event) (book : BookView) : Type 0 where
  pub so_far : BookSoFar
  pub numbers : List ℕ
  pub runnable : List (List Bool)
  pub invariant : BookInvariant host events (length events) so_far numbers runnable
  pub is : book ≡ book_view (course_of host events so_far.plans.items numbers runnable) so_far.outcomes.items
