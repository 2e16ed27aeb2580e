-- Values as 64 bits hold them.
use Rattle.std.specs.Prelude.{◌≡◌, ℕ, ◌-◌, ◌^◌, ◌<◌, ◌≤◌}

-- a value, or the greatest of 64 bits where the value isn't below that
pub record IsSaturated (value held : ℕ) : Type 0 where
  pub least : held ≤ value
  pub exact : held < 2 ^ 64 - 1 → held ≡ value

-- some value of this kind is so held
pub record HoldsSaturated (is_value : ℕ → Type 0) (held : ℕ) : Type 0 where
  pub value : ℕ
  pub is : is_value value
  pub kept : IsSaturated value held
