-- The periods of this profile: the divisors of the table length that are at least 100 ticks.
use Rattle.std.specs.Prelude.{ℕ, ◌==◌, Bool, IsTrue}
use Rattle.std.specs.List.{list_any}
use Rattle.tab_core.specs.declared.TheConstants.{PERIODS}

-- the number is in the table of periods
unfoldable pub is_period : ℕ → Bool
is_period period = list_any (λ listed. listed == period) PERIODS

-- the number is one of the 65 periods
abbrev pub IsPeriod : ℕ → Type 0
IsPeriod period = IsTrue (is_period period)
