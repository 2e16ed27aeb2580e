-- The time of one core: its stints, one after the other, and its entries of rounds.
-- Source: the rules of this project.
use Rattle.std.specs.Prelude.{◌≡◌, ℕ, ◌+◌, ◌*◌, ◌/◌, ◌<◌, ◌≤◌, List, [], ◌∷◌, Some, length, slice_get}
use Rattle.tab_core.specs.declared.TheConstants.{ROUND}
use Rattle.tab_core.specs.declared.entry.Entry.{Entry}
use Rattle.tab_core.specs.declared.stint.Stint.{Stint}

-- the stints go from a tick on, each from where the one before ends, to another
abbrev pub AreContiguous : ℕ → List Stint → ℕ → Type 0
AreContiguous from [] to = from ≡ to
AreContiguous from (s ∷ ss) to = (s.from ≡ from) × AreContiguous s.end ss to

-- a stint has a tick at least, stays in its round, and uses the count with which the core entered it
pub record IsStintOf (entries : List Entry) (s : Stint) : Type 0 where
  pub some_ticks : s.from < s.end
  pub in_round : s.end ≤ (s.from / ROUND + 1) * ROUND
  pub entry : Entry
  pub entered : slice_get entries (s.from / ROUND) ≡ Some entry
  pub used : s.used ≡ entry.used

-- the stints fill the time from 0 to the clock; the entries are of the rounds 0, 1, 2 and so on, one
-- for each round in which a stint begins, and at most one more, of the clock's round
pub record HasTimeline (clock : ℕ) (entries : List Entry) (stints : List Stint) : Type 0 where
  pub contiguous : AreContiguous 0 stints clock
  pub numbered : (r : ℕ) (e : Entry) → slice_get entries r ≡ Some e → e.round ≡ r
  pub reach : clock ≤ length entries * ROUND
  pub ahead : length entries * ROUND ≤ clock + ROUND
  pub each : (k : ℕ) (s : Stint) → slice_get stints k ≡ Some s → IsStintOf entries s
