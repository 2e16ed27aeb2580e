-- The least number of a test from one on, or 256, and the numbers of the bits of one word.
use Rattle.std.specs.Prelude.{◌≡◌, ◌⊎◌, ℕ, ◌+◌, ◌-◌, ◌<◌, ◌≤◌}
use Rattle.std.specs.Int.{bit_at}
use Rattle.tab_core.specs.Least.{IsLeast}
use Rattle.tab_core.specs.declared.TheConstants.{MAX_VCPUS}

-- no number from one on passes
abbrev pub NoneFrom : (ℕ → Type 0) → ℕ → Type 0
NoneFrom passes from = (w : ℕ) → passes w → from ≤ w → ⊥

-- the least number from one on that passes, or 256 where none does
abbrev pub IsFirst : (ℕ → Type 0) → ℕ → ℕ → Type 0
IsFirst passes from v = ((v < MAX_VCPUS) × IsLeast passes from v) ⊎ ((v ≡ MAX_VCPUS) × NoneFrom passes from)

-- the number's bit is 1 in the word that has the numbers from `base` on
pub record HasBitFrom (word base v : ℕ) : Type 0 where
  pub low : base ≤ v
  pub high : v < base + 64
  pub bit : bit_at word (v - base) ≡ 1
