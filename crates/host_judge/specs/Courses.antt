-- What a vCPU does over time, and how long it is in a state.
-- Source: the states are those of schedstat in Linux (Documentation/scheduler/sched-stats.rst): a task runs on a CPU,
-- waits to run on one, or does neither.
use Rattle.std.specs.Prelude.{◌≡◌, ℕ, ◌-◌, ◌<◌, ◌≤◌, Bool, true, false, if◌then◌else◌, Option, Some, None}
use Rattle.tab_core.specs.Sums.{total}
use Rattle.host_trace.specs.declared.mark.State.{State}
use Rattle.host_trace.specs.declared.mark.State.TheVariants.{Run, Wait, Block}

-- the state at each ns, which goes on until the next; none where it isn't known
abbrev pub StateCourse : Type 0
StateCourse = ℕ → Option State

-- the two states are one
abbrev pub is_same : State → State → Bool
is_same Run Run = true
is_same Wait Wait = true
is_same Block Block = true
is_same _ _ = false

-- a vCPU is in this state, which may be unknown
abbrev pub is_in : State → Option State → Bool
is_in state None = false
is_in state (Some held) = is_same state held

-- how many of the ns before a time are in the state
abbrev pub time_before : StateCourse → State → ℕ → ℕ
time_before course state time = total (λ t. if is_in state (course t) then 1 else 0) time

-- how many from a time to another are
abbrev pub time_between : StateCourse → State → ℕ → ℕ → ℕ
time_between course state from to = time_before course state to - time_before course state from

-- the state stays the same from a time to another
pub record IsSteady (course : StateCourse) (state : Option State) (from to : ℕ) : Type 0 where
  pub held : (t : ℕ) → from ≤ t → t < to → course t ≡ state
