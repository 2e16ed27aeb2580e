-- Numbers as texts have them: decimal digits without a sign and without leading zeros.
use Rattle.std.specs.Prelude.{◌≡◌, ℕ, ◌<◌, ◌^◌, List, decimal}

-- the bytes are the decimal digits of the number, which is below 2^64
pub record Spells (bytes : List ℕ) (n : ℕ) : Type 0 where
  pub fits : n < 2 ^ 64
  pub digits : bytes ≡ decimal n
