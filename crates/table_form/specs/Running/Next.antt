-- Who can go on while a run isn't whole.
-- Source: the rules of this project.
use Rattle.std.specs.Prelude.{ℕ, ◌<◌, ◌≤◌}
use Rattle.table_form.specs.Running.State.{State, CoreState, IsCore}

-- no clock is below this core's, and it is the lowest such core
pub record IsLeastClock (s : State) (c : ℕ) (core : CoreState) : Type 0 where
  pub at : IsCore s c core
  pub least : (d : ℕ) (other : CoreState) → IsCore s d other → core.clock ≤ other.clock
  pub first : (d : ℕ) (other : CoreState) → d < c → IsCore s d other → core.clock < other.clock
