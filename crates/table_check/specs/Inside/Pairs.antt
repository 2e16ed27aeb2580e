-- How far the search for a clash has come: the pairs of cores before one.
use Rattle.std.specs.Prelude.{◌≡◌, ◌⊎◌, ℕ, ◌<◌, List, Option, Some, None}
use Rattle.table_form.specs.Tables.Rows.{Row}
use Rattle.table_check.specs.Clashes.{IsClash, IsLeastClash}
use Rattle.table_check.specs.declared.clash.Clash.{Clash}

-- the pair of cores (c, d) comes before (core, other): its first core is lower, or the same and its
-- second is lower
abbrev pub IsEarlierPair : ℕ → ℕ → ℕ → ℕ → Type 0
IsEarlierPair core other c d = (c < core) ⊎ ((c ≡ core) × (d < other))

-- a clash of a pair of cores before (core, other)
pub record IsClashBefore (rows : List Row) (core other v tick c d : ℕ) : Type 0 where
  pub clash : IsClash rows v tick c d
  pub earlier : IsEarlierPair core other c d

-- the first clash of the pairs before (core, other), or that they have none
abbrev pub IsFirstBefore : List Row → ℕ → ℕ → Option Clash → Type 0
IsFirstBefore rows core other None = (v tick c d : ℕ) → IsClashBefore rows core other v tick c d → ⊥
IsFirstBefore rows core other (Some first) =
    IsLeastClash (IsClashBefore rows core other) first.vcpu first.tick first.core first.other
