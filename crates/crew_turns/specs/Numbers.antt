-- What is said of numbers alone: of the least of some clocks, and of a mask of neighbouring actors.
-- Source: the rules of this project.
use Rattle.std.specs.Prelude.{◌≡◌, ◌≢◌, ◌⊎◌, ℕ, ◌+◌, ◌<◌, ◌≤◌, true, List, slice_index}
use Rattle.round_words.specs.Views.{names}
use Rattle.crew_turns.specs.declared.clocks.TheConstants.{OUT}

-- no core of the first n has a lower clock than core c
abbrev pub IsLeastOfFirst : List ℕ → ℕ → ℕ → Type 0
IsLeastOfFirst ticks c n = (d : ℕ) → d < n → slice_index ticks c ≤ slice_index ticks d

-- each core before core c is ahead of it
abbrev pub IsFirst : List ℕ → ℕ → Type 0
IsFirst ticks c = (d : ℕ) → d < c → slice_index ticks c < slice_index ticks d

-- the tick is the least clock of the first n cores but core c, or OUT where no other is to go on
pub record IsLeastBut (ticks : List ℕ) (c n tick : ℕ) : Type 0 where
  pub low : (d : ℕ) → d < n → d ≢ c → tick ≤ slice_index ticks d
  pub one : (tick ≡ OUT) ⊎ ((d : ℕ) × (d < n) × (d ≢ c) × (slice_index ticks d ≡ tick))

-- the bits of the mask are n actors, from the first one on
pub record NamesFrom (first n mask : ℕ) : Type 0 where
  pub there : (c : ℕ) → names mask c ≡ true → (i : ℕ) × (i < n) × (c ≡ first + i)
  pub all : (i : ℕ) → i < n → names mask (first + i) ≡ true
