-- The plan after some changes of a live book, sought on a shelf.
use Rattle.std.specs.Prelude.{ℕ, ◌<◌, ◌≤◌, true, false, List, length}
use Rattle.table_form.specs.Tables.Plans.{PlanView}
use Rattle.slice_table.specs.declared.full_span.FullSpan.{FullSpan}
use Rattle.slice_table.specs.Slices.{IsTableOf}
use Rattle.live_plan.specs.declared.seeking.Unmade.{Unmade}
use Rattle.live_plan.specs.declared.seeking.Unmade.TheVariants.{NotMade, Stopped}
use Rattle.live_plan.specs.declared.taken.Taken.{Taken}
use Rattle.live_plan.specs.Actors.{IsLastChange}
use Rattle.live_plan.specs.Books.{IsChange, LiveView, changes_before}
use Rattle.live_plan.specs.Controls.{IsNextChange}
use Rattle.live_plan.specs.Courses.{IsPlanAt}
use Rattle.live_plan.specs.Shelves.{Knows, Missed, ShelfView}

-- what was taken last is right for so many changes of the book
pub record IsLatestTaken (b : LiveView) (taken : Taken) : Type 0 where
  pub few : taken.changes ≤ length b.changes
  pub last : IsLastChange b taken.changes taken.planned

-- the table is core c's by the plan after the first k changes
pub record IsSliceAt (b : LiveView) (k c : ℕ) (table : List FullSpan) : Type 0 where
  pub plan : PlanView
  pub at : IsPlanAt b k plan
  pub of : IsTableOf plan c table

-- why the plan after the first k changes isn't known: a look at one of them missed, or memory ran out for one
abbrev pub IsUnmade : ℕ → ShelfView → ShelfView → Unmade → Type 0
IsUnmade k s t (NotMade change) = (change < k) × Missed s t change
IsUnmade k s t (Stopped change) = (change < k) × Knows t change true

-- nothing holds back event n: if it is a change, the shelf knows a value for it other than out of memory
abbrev pub IsFree : LiveView → ℕ → ShelfView → Type 0
IsFree b n t = n < length b.outline.ticks → IsChange b n → Knows t (changes_before b n) false

-- event n is a change which holds the controller back
abbrev pub IsHeldBack : LiveView → ℕ → ShelfView → ShelfView → Unmade → Type 0
IsHeldBack b n s t (NotMade change) = IsNextChange b n change × Missed s t change
IsHeldBack b n s t (Stopped change) = IsNextChange b n change × Knows t change true
