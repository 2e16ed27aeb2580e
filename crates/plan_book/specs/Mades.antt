-- What was made of changes of reservations before their book is made.
-- Source: the rules of this project.
use Rattle.std.specs.Prelude.{◌≡◌, ℕ, List, Option, Some, Result, Ok, Err, slice_get, take}
use Rattle.tab_core.specs.Edits.{IsEdited}
use Rattle.tab_core.specs.declared.edit.Edit.{Edit}
use Rattle.tab_core.specs.declared.host.Host.{Host}
use Rattle.table_form.specs.Tables.Plans.{IsPlanFor}
use Rattle.table_form.specs.Tables.Views.{plan_view}
use Rattle.table_form.specs.declared.plan.Plan.{Plan}
use Rattle.plan_make.specs.Planned.{IsPlanned}
use Rattle.script_doc.specs.Script.{changes_in}
use Rattle.script_doc.specs.declared.event.Act.TheVariants.{Change}
use Rattle.script_doc.specs.declared.event.Event.{Event}
use Rattle.plan_book.specs.After.{IsKnownAfter}
use Rattle.plan_book.specs.Changes.{IsUnplanned}
use Rattle.plan_book.specs.States.{BookState}
use Rattle.plan_book.specs.declared.outcome.Outcome.{Outcome}

-- the plan is the host's, or the outcome tells why it has none
abbrev pub IsMadeOf : Host → Result Plan Outcome → Type 0
IsMadeOf host (Ok plan) = IsPlanned host (plan_view plan) × IsPlanFor host (plan_view plan)
IsMadeOf host (Err outcome) = IsUnplanned host outcome

-- change k of the events edits the host that is known then to this one, whether that has a plan or not
pub record IsChangedTo (host : Host) (events : List Event) (k : ℕ) (changed : Host) : Type 0 where
  pub n : ℕ
  pub number : changes_in (take n events) ≡ k
  pub known : BookState
  pub is : IsKnownAfter host events n known
  pub event : Event
  pub at : slice_get events n ≡ Some event
  pub edits : List Edit
  pub act : event.act ≡ Change edits
  pub edited : IsEdited known.host edits changed

-- what is at a change's place, if anything, was made of the host that the change makes
abbrev pub AreMadeOf : Host → List Event → List (Option (Result Plan Outcome)) → Type 0
AreMadeOf host events made = (k : ℕ) (m : Result Plan Outcome) (changed : Host) → slice_get made k ≡ Some (Some m)
    → IsChangedTo host events k changed → IsMadeOf changed m
