-- The least number that passes a test.
use Rattle.std.specs.Prelude.{ℕ, ◌≤◌}

-- the least of those from a number on
pub record IsLeast (passes : ℕ → Type 0) (from v : ℕ) : Type 0 where
  pub holds : passes v
  pub high : from ≤ v
  pub first : (w : ℕ) → passes w → from ≤ w → v ≤ w
