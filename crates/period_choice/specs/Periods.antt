-- What the periods are that the table of periods lists.
-- Source: this project's own length of a table.
use Rattle.std.specs.Prelude.{◌≡◌, ℕ, ◌*◌, ◌≤◌}

-- a stretch of at least 100 ticks, of which so many make a round of 102,600
pub record IsLongDivisor (ticks : ℕ) : Type 0 where
  pub long : 100 ≤ ticks
  pub times : ℕ
  pub whole : ticks * times ≡ 102600
