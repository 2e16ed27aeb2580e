-- The shelf in memory.
use Rattle.std.specs.Prelude.{◌≡◌, ℕ, ◌≤◌, Bool, true, false, List, Option, None, Some, length, slice_index, slice_index_or}
use Rattle.tab_core.specs.declared.TheConstants.{MAX_CHANGES}
use Rattle.live_plan.specs.declared.list_shelf.ListShelf.{ListShelf}
use Rattle.live_plan.specs.Books.{IsMadeFor, LiveView}
use Rattle.live_plan.specs.Mades.{MadeView}
use Rattle.live_plan.specs.Shelves.{ShelfView}

-- what is at a place, once it was looked at
abbrev pub seen_at : Bool → Option MadeView → Option MadeView
seen_at true made = made
seen_at false made = None

-- what the shelf knows is what was looked at
abbrev pub list_state : ListShelf → ShelfView
list_state shelf = record {
  known = λ c. seen_at (slice_index_or shelf.looked c true) (slice_index_or shelf.made.now c None);
  misses = λ c. slice_index shelf.missed c;
}

-- there is a place for each change of the book, and each value is for the change that its place names
pub record AreMadeFor (b : LiveView) (made : List (Option MadeView)) : Type 0 where
  pub count : length made ≡ length b.changes
  pub few : length b.changes ≤ MAX_CHANGES
  pub each : (c : ℕ) (m : MadeView) → slice_index_or made c None ≡ Some m → IsMadeFor b c m
