-- Nobody runs on two cores at one tick.
use Rattle.std.specs.Prelude.{◌≡◌, ℕ, ◌<◌, ◌≤◌, Some, slice_get}
use Rattle.tab_core.specs.declared.stint.Stint.{Stint}
use Rattle.table_form.specs.Running.State.{State, CoreState, IsCore}

-- the core's stint at the tick
pub record Covers (core : CoreState) (x : ℕ) (s : Stint) : Type 0 where
  pub place : ℕ
  pub at : slice_get core.stints place ≡ Some s
  pub begun : s.from ≤ x
  pub going : x < s.end

-- two stints that run one vCPU at one tick are of one core
abbrev pub RunsOnOneCore : State → Type 0
RunsOnOneCore s = (x v c d : ℕ) (core other : CoreState) (st su : Stint) → IsCore s c core
    → IsCore s d other → Covers core x st → Covers other x su → st.ran ≡ Some v → su.ran ≡ Some v
    → c ≡ d
