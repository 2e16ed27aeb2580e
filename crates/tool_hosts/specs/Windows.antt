-- How long the windows are in which a judge counts shares.
-- Source: the bounds are this project's own.
use Rattle.std.specs.Prelude.{◌≡◌, ℕ, ◌≤◌, List, Option, Some, None}
use Rattle.sizes_doc.specs.Sizes.{IsTimeOr}

-- the word is a window of so many nanoseconds: a time, or milliseconds if it has no unit, from 1 ms to an hour
pub record IsWindowTime (word : List ℕ) (ns : ℕ) : Type 0 where
  pub least : 1000000 ≤ ns
  pub most : ns ≤ 3600000000000
  pub is : IsTimeOr 1000000 word ns

-- a window has so many nanoseconds: those that the word names, or a second without a word
abbrev pub IsWindow : Option (List ℕ) → ℕ → Type 0
IsWindow None ns = ns ≡ 1000000000
IsWindow (Some word) ns = IsWindowTime word ns
