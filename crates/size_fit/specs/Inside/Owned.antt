-- What a segment adds to the load of its core.
use Rattle.std.specs.Prelude.{ℕ, Option, None, Some}

-- so many ticks where they have an owner
abbrev pub owned_ticks : ℕ → Option ℕ → ℕ
owned_ticks ticks None = 0
owned_ticks ticks (Some vcpu) = ticks
