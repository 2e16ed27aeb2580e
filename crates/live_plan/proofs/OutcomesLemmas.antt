-- What was made of the changes of a live book is what their plan book may be given.
use Rattle.std.proofs.Common.{◌≡◌, inl, inr, ℕ, List, [], ◌∷◌, ◌++◌, length, Option, None, Some, Result, Ok, Err, ap, sym, subst, ◌∙◌}
use Rattle.std.specs.Prelude.{IfSome, slice_get}
use Rattle.tab_core.proofs.Lists.{push_split}
use Rattle.tab_core.specs.declared.edit.Edit.{Edit}
use Rattle.tab_core.specs.declared.host.Host.{Host}
use Rattle.table_form.proofs.TaskLemmas.{tasks_admit}
use Rattle.table_form.specs.Tables.Plans.{IsPlanFor, PlanView}
use Rattle.table_form.specs.Tables.Views.{plan_view}
use Rattle.table_form.specs.declared.plan.Plan.{Plan}
use Rattle.period_choice.proofs.TasksLemmas.{tasks_where_reserved}
use Rattle.plan_make.specs.Planned.{IsPlanned}
use Rattle.script_doc.specs.declared.event.Event.{Event}
use Rattle.plan_book.specs.Changes.{IsUnplanned}
use Rattle.plan_book.specs.Mades.{AreMadeOf, IsChangedTo, IsMadeOf}
use Rattle.plan_book.specs.declared.outcome.Outcome.{Outcome}
use Rattle.plan_book.proofs.SameShape.{same_shape}
use Rattle.live_plan.specs.Books.{IsLiveBookOf, LiveView, edits_in}
use Rattle.live_plan.specs.Changes.{HostAfter, IsEditedBy}
use Rattle.live_plan.specs.Inside.Outcomes.{AreOutcomesOf, IsOutcomeOf, IsSameButCells}
use Rattle.live_plan.proofs.CoursesLemmas.{edits_at, known_live}
use Rattle.live_plan.proofs.TellingLemmas.{edited_here}

-- a host's plan with a row for each core is one for the host
pub planned_fits : (host : Host) (plan : PlanView) → IsPlanned host plan → length plan.rows ≡ host.cores
    → IsPlanFor host plan
planned_fits host plan planned rows =
    let tasks = planned.layout.is_start.tasks_are in
    record {
      rows = rows;
      vcpus = tasks.as_many;
      admitted = tasks_admit host.vcpus plan.tasks tasks.as_many (tasks_where_reserved host plan.tasks tasks);
    }

-- one more
pub outcomes_more : (b : LiveView) (made : List (Option (Result Plan Outcome))) (k : ℕ)
    (next : Option (Result Plan Outcome)) → length made ≡ k → AreOutcomesOf b made → IfSome next (IsOutcomeOf b k)
    → AreOutcomesOf b (made ++ next ∷ [])
outcomes_more b made k next count are is j m at = elim (push_split made j next (Some m) at) [
  | inl old ↦ are j m old
  | inr last ↦ subst (λ (i : ℕ). IsOutcomeOf b i m) (sym (last.0 ∙ count)) (subst (λ o. IfSome o (IsOutcomeOf b k)) last.1 is)
]

-- what is in the cells doesn't matter to it
pub outcome_back : (b b' : LiveView) (k : ℕ) (o : Option (Result Plan Outcome)) → IsSameButCells b b'
    → IfSome o (IsOutcomeOf b' k) → IfSome o (IsOutcomeOf b k)
outcome_back b b' k None same is = is
outcome_back b b' k (Some (Ok plan)) same is = subst (λ (x : LiveView). IsOutcomeOf x k (Ok plan)) same is
outcome_back b b' k (Some (Err outcome)) same is = subst (λ (x : LiveView). IsOutcomeOf x k (Err outcome)) same is

-- one cell after the other
pub same_but_cells : (a b c : LiveView) → IsSameButCells a b → IsSameButCells b c → IsSameButCells a c
same_but_cells a b c ab bc = bc ∙ ap (λ (x : LiveView). record x { cells = c.cells }) ab

module _ (host : Host) (events : List Event) (b : LiveView) (of : IsLiveBookOf host events b) where
  -- what the rules give for a change of the book was made of the host that it makes
  made_of_book : (k : ℕ) (m : Result Plan Outcome) (changed : Host) → IsOutcomeOf b k m → IsChangedTo host events k changed
      → IsMadeOf changed m
  made_of_book k m changed outcome is = by m outcome
    where
      -- the change edits the host that is in the book
      one : (edited : Host) → IsEditedBy b.host b.changes k edited → changed ≡ edited
      one edited by =
          let stands : HostAfter b.host b.changes k is.known.host =
          subst (λ (h : Host). HostAfter h b.changes k is.known.host) (sym of.host_is)
          (subst (λ (cs : List (List Edit)). HostAfter host cs k is.known.host) (sym of.changes_are)
          (subst (λ (j : ℕ). HostAfter host (edits_in events) j is.known.host) is.number (known_live host events is.n is.known is.is).stands)) in
          let at : slice_get b.changes k ≡ Some is.edits =
          subst (λ (cs : List (List Edit)). slice_get cs k ≡ Some is.edits) (sym of.changes_are)
          (subst (λ (j : ℕ). slice_get (edits_in events) j ≡ Some is.edits) is.number (edits_at events is.n is.event is.edits is.at is.act)) in
          edited_here b.host b.changes k is.known is.edits changed edited stands at is.edited by

      by : (m : Result Plan Outcome) → IsOutcomeOf b k m → IsMadeOf changed m
      by (Ok plan) (tables, found) =
          let same = one found.edited found.edited_by in
          let planned : IsPlanned changed (plan_view plan) =
          subst (λ (h : Host). IsPlanned h (plan_view plan)) (sym same) found.planned in
          let cores : b.host.cores ≡ changed.cores = ap (λ (h : Host). h.cores) of.host_is
          ∙ (sym (same_shape host events is.n is.known is.is).cores ∙ sym is.edited.cores) in
          (planned, planned_fits changed (plan_view plan) planned (found.rows ∙ cores))
      by (Err outcome) found =
          subst (λ (h : Host). IsUnplanned h outcome) (sym (one found.edited found.edited_by)) found.unplanned

  -- what was made may be given to the maker of the plan book
  pub made_of_all : (made : List (Option (Result Plan Outcome))) → AreOutcomesOf b made → AreMadeOf host events made
  made_of_all made are k m changed at is = made_of_book k m changed (are k m at) is
