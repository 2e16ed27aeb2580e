-- What a shelf knows of the made values of a book, and what a look does to that.
-- Source: the rules of this project.
use Rattle.std.specs.Prelude.{◌≡◌, ℕ, ◌≤◌, Bool, Option, None, Some}
use Rattle.tab_io.specs.FaultCounts.{Rose}
use Rattle.live_plan.specs.Finding.{is_stopped}
use Rattle.live_plan.specs.Mades.{MadeView}

-- the value that it knows of each change, and how often a look at each missed
pub record ShelfView : Type 0 where
  pub known : ℕ → Option MadeView
  pub misses : ℕ → ℕ

-- the shelf knows a value for the change, which is out of memory or isn't
pub record Knows (s : ShelfView) (change : ℕ) (stopped : Bool) : Type 0 where
  pub made : MadeView
  pub known : s.known change ≡ Some made
  pub is : is_stopped made.found ≡ stopped

-- what looks leave: what was known is known, and no count of misses falls
pub record Grows (s t : ShelfView) : Type 0 where
  pub known : (c : ℕ) (m : MadeView) → s.known c ≡ Some m → t.known c ≡ Some m
  pub misses : (c : ℕ) → s.misses c ≤ t.misses c

-- a look at the change missed: it wasn't known and isn't, and its misses rose
pub record Missed (s t : ShelfView) (change : ℕ) : Type 0 where
  pub before : s.known change ≡ None
  pub after : t.known change ≡ None
  pub rose : Rose (s.misses change) (t.misses change)
