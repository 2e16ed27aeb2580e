-- What steps wait for: events that are posted, and clocks that are within the lag.
-- Source: the rules of this project.
use Rattle.std.specs.Prelude.{◌≡◌, ◌≢◌, ℕ, ◌+◌, ◌<◌, ◌≤◌, List, Option, Some, slice_get}
use Rattle.table_form.specs.Running.State.{CoreState}

-- each clock but that of the core that is skipped is at least the tick less the lag
abbrev pub AreWithinLag : ℕ → List CoreState → Option ℕ → ℕ → Type 0
AreWithinLag lag cores skip tick = (d : ℕ) (other : CoreState) → slice_get cores d ≡ Some other
    → skip ≢ Some d → tick ≤ other.clock + lag

-- the lowest core whose clock isn't, and that clock
pub record IsFirstBehind (lag : ℕ) (cores : List CoreState) (skip : Option ℕ) (tick d clock : ℕ) : Type 0 where
  pub other : CoreState
  pub at : slice_get cores d ≡ Some other
  pub not_skipped : skip ≢ Some d
  pub clock_is : clock ≡ other.clock
  pub low : other.clock + lag < tick
  pub lowest : (e : ℕ) (core : CoreState) → e < d → slice_get cores e ≡ Some core → skip ≢ Some e
      → tick ≤ core.clock + lag
