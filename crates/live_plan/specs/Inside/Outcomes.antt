-- What was made of the changes of a live book, once more.
use Rattle.std.specs.Prelude.{◌≡◌, ℕ, List, Option, Some, Result, Ok, Err, slice_get}
use Rattle.table_form.specs.Tables.Views.{plan_view}
use Rattle.table_form.specs.declared.plan.Plan.{Plan}
use Rattle.slice_table.specs.declared.full_span.FullSpan.{FullSpan}
use Rattle.plan_book.specs.declared.outcome.Outcome.{Outcome}
use Rattle.live_plan.specs.Books.{LiveView}
use Rattle.live_plan.specs.Finding.{IsPlanOf, IsRefusalOf}

-- the books differ in their cells alone
abbrev pub IsSameButCells : LiveView → LiveView → Type 0
IsSameButCells b b' = b' ≡ record b { cells = b'.cells }

-- the plan or the outcome is what the rules give for change k of the book
abbrev pub IsOutcomeOf : LiveView → ℕ → Result Plan Outcome → Type 0
IsOutcomeOf b k (Ok plan) = (tables : List (List FullSpan)) × IsPlanOf b.host b.changes k (plan_view plan) tables
IsOutcomeOf b k (Err outcome) = IsRefusalOf b.host b.changes k outcome

-- what is at each change's place, if anything, is what the rules give for that change of the book
abbrev pub AreOutcomesOf : LiveView → List (Option (Result Plan Outcome)) → Type 0
AreOutcomesOf b made = (k : ℕ) (m : Result Plan Outcome) → slice_get made k ≡ Some (Some m) → IsOutcomeOf b k m
