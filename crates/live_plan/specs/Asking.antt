-- Which changes a core's step asks a shelf for.
-- Source: the rules of this project.
use Rattle.std.specs.Prelude.{◌≡◌, ◌⊎◌, ℕ, ◌<◌, false, Some, length, slice_get}
use Rattle.tab_core.specs.declared.entry.Entry.{Entry}
use Rattle.round_words.specs.declared.view.Part.{Part}
use Rattle.dispatch_core.specs.Told.{round_at}
use Rattle.live_book.specs.Books.{LiveView, changes_before}
use Rattle.live_book.specs.Shelves.{Knows, Missed, ShelfView}

-- the change is among the first events that the part uses in its clock's round
pub record Needs (b : LiveView) (p : Part) (change : ℕ) : Type 0 where
  pub entry : Entry
  pub entered : slice_get p.entries (round_at p) ≡ Some entry
  pub used : change < changes_before b entry.used

-- the change is the first one beyond so many events
pub record IsBeyond (b : LiveView) (seen change : ℕ) : Type 0 where
  pub some : change < length b.changes
  pub first : change ≡ changes_before b seen

-- a look at that one, if there is one, missed, or found that it isn't out of memory
abbrev pub LooksBeyond : LiveView → ℕ → ShelfView → ShelfView → Type 0
LooksBeyond b seen s t = (change : ℕ) → IsBeyond b seen change → Missed s t change ⊎ Knows t change false
